-- Lemmas that the crates above cite.
pub mod Unions
pub mod Fits
pub mod ByRank
pub mod Members
pub mod Once
pub mod OneCut
pub mod Withouts
