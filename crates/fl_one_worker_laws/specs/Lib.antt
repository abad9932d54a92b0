pub mod Completing
pub mod Single
