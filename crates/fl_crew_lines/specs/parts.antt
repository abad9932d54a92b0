-- Relations that join the private functions.
pub mod Once
