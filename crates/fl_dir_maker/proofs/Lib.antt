mod Files
pub mod Keepers
pub mod Closed
