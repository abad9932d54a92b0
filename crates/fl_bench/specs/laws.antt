pub mod Puts
pub mod Steps
pub mod Orders
pub mod Orderly
