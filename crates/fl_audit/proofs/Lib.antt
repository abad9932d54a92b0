pub mod Copies
pub mod Notes
mod OfAny
