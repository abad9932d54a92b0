pub mod Knowledge
pub mod Gains
