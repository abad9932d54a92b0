pub mod Ample
pub mod laws
