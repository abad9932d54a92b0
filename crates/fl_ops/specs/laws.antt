-- Proved laws that the crates above cite: of what is reached and in effect, of first logins, and of spellings.
pub mod Logins
pub mod Reaching
pub mod Spelled
pub mod OneSpelling
