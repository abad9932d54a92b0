-- Lemmas that proofs of the crates above cite.
pub mod Widening
pub mod Chains
pub mod Scripts
pub mod Wider
pub mod Leads
pub mod Telling
pub mod Published
pub mod Settling
pub mod Resting
pub mod Exchanging
pub mod Lasting
