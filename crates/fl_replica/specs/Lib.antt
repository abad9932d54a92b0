pub mod Boards
pub mod parts
