pub mod Tables
pub mod Dollar
pub mod Padding
