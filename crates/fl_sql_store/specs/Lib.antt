pub mod SqlKeeping
pub mod Opening
pub mod Breaking
pub mod Closing
