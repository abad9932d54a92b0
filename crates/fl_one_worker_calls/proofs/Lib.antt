pub mod Places
pub mod Lifting
pub mod Delivering
pub mod Packets
pub mod Serving
