pub mod Births
pub mod Gains
pub mod Apart
