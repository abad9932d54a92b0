pub mod Sound
pub mod Owned
pub mod Goes
pub mod laws
