pub mod Ties
pub mod Opening
pub mod Restarting
pub mod Telling
pub mod Batching
pub mod Arriving
pub mod Responding
pub mod Walking
