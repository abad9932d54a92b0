-- Lemmas that proofs of the crates above may cite.
pub mod AsScript
pub mod OneReading
