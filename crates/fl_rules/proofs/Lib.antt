pub mod Duals
pub mod Endpoints
pub mod Losses
pub mod Walks
