pub mod Headlines
pub mod Reaching
pub mod Running
pub mod Along
