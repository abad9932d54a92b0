-- Relations that join functions, and that no public clause needs.
pub mod Meaning
pub mod Reads
pub mod Acts
pub mod Cut
pub mod Parts
