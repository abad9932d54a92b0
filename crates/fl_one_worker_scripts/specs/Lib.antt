pub mod Shared
pub mod Written
pub mod Alike
