-- Relations that join functions, and that no public clause needs.
pub mod LoginPlace
pub mod Kept
pub mod Gap
pub mod Room
