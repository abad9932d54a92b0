pub mod Shown
pub mod laws
pub mod parts
