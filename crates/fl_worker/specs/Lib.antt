pub mod Stops
pub mod Tasks
pub mod Seen
pub mod Done
pub mod parts
pub mod laws
