-- Lemmas that the crates above cite.
pub mod Leasts
pub mod Rising
pub mod OneCutting
pub mod Wanted
pub mod Cutting
