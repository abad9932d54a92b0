-- Proved laws that the crates above cite: of endpoints and of messages.
pub mod Endpoints
pub mod Messages
