pub mod Opens
pub mod Searches
