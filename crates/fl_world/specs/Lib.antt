pub mod Reached
pub mod Headline
pub mod Lasting
pub mod Along
