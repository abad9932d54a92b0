-- Proved laws of worlds, that the crates above cite.
pub mod Nodes
pub mod Naming
pub mod Keeping
