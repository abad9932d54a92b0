pub mod Nodes
pub mod Passed
pub mod Ruled
pub mod Decided
pub mod Brought
pub mod Taken
mod Rising
