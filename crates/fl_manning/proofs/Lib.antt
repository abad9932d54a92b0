pub mod Places
pub mod Begun
pub mod Benches
pub mod Ends
pub mod Asked
