-- Relations that join functions, and that no public clause needs.
pub mod Ahead
pub mod Filling
pub mod Nothing
pub mod Starving
