pub mod Over
pub mod Seats
pub mod Seated
pub mod Plans
pub mod Frugal
pub mod Batches
pub mod Crews
pub mod Standing
