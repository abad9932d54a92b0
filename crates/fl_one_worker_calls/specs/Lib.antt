pub mod Worlds
pub mod Crews
