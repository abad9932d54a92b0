-- Lemmas that proofs of the crates above cite.
pub mod Agreement
pub mod JobKinds
pub mod OneWord
pub mod OneLine
pub mod Ends
pub mod NoAs
pub mod WordShape
pub mod Replacing
pub mod OneReading
pub mod NamedLines
