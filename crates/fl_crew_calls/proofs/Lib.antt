pub mod Batching
pub mod Replying
pub mod Places
pub mod Maps
pub mod Numbers
pub mod Serving
pub mod Joins
