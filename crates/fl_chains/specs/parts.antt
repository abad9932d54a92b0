-- Relations that join functions. What a chain is, and which one is given, is said without them.
pub mod Legs
pub mod Logins
pub mod Search
