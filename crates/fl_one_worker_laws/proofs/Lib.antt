pub mod Single
pub mod Turning
pub mod Places
pub mod Batches
pub mod Packets
pub mod Opening
pub mod Restarting
