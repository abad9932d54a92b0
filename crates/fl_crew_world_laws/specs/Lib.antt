pub mod Crews
pub mod Standing
