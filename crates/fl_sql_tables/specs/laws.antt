pub mod Listed
pub mod Deciding
