-- Relations that join the private functions.
pub mod Hearing
pub mod Responding
