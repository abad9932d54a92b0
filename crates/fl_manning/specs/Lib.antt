pub mod Begun
pub mod Changes
pub mod Ended
pub mod Orders
