pub mod Cutting
pub mod Choosing
pub mod Each
pub mod Ending
pub mod Entries
pub mod Wholes
