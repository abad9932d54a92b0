pub mod Listing
pub mod Benches
pub mod parts
