pub mod Kept
pub mod Call
pub mod Keeping
pub mod Custody
pub mod Breaking
pub mod MemKeeping
pub mod laws
