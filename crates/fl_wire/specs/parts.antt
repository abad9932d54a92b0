-- Relations that join functions, and that no public clause needs.
pub mod Items
pub mod Ops
pub mod SpansRead
pub mod Walked
