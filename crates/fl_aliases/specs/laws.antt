-- Lemmas that proofs of the crates above cite.
pub mod Letters
pub mod Runs
pub mod Expanding
pub mod Placing
pub mod TargetWords
pub mod WordByWord
