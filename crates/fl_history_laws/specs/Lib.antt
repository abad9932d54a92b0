pub mod Seats
pub mod Doing
pub mod Lives
pub mod Owned
pub mod Endpoints
pub mod Labels
pub mod Sent
pub mod laws
