-- Relations that join functions, and that no public clause needs.
pub mod History
pub mod Shown
pub mod Rules
