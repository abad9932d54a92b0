pub mod parts
pub mod Wanting
