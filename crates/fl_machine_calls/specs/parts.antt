-- Relations that join functions, and that no public clause needs.
pub mod Emitting
