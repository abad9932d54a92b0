-- Proved laws of nodes and worlds, that the crates above cite.
pub mod Steps
pub mod Owning
pub mod Wholes
pub mod Numbered
pub mod Going
pub mod Finding
