pub mod Endpoint
pub mod Judges
pub mod Labels
pub mod Message
pub mod Pair
pub mod Safety
pub mod laws
pub mod parts
