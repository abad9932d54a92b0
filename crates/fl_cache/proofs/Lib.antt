pub mod Asked
pub mod Grown
pub mod Sent
