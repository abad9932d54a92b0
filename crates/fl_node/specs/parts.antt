-- Relations that join functions, and that no public clause needs.
pub mod Finding
pub mod Keeping
pub mod Ordering
pub mod Receiving
pub mod Working
