-- Lemmas that proofs of the crates above cite.
pub mod Choosing
pub mod OnlyBroken
pub mod Widening
