pub mod Lists
pub mod Seats
pub mod Opened
pub mod Planned
pub mod Begun
mod Breaking
pub mod Ends
mod Lost
pub mod Manning
pub mod Frugal
pub mod Said
pub mod Weaving
pub mod Serving
mod Standing
