pub mod parts
pub mod Witness
pub mod laws
