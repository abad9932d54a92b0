pub mod Places
pub mod laws
