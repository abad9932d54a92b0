-- Relations that join functions, and that no public clause needs.
pub mod Stages
pub mod Saving
pub mod Sound
pub mod Rules
pub mod Takes
