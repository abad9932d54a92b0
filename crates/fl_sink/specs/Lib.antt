pub mod Sink
pub mod laws
