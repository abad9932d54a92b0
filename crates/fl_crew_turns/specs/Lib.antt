pub mod Held
pub mod Naming
pub mod Session
pub mod Batch
pub mod Turn
pub mod Answered
pub mod Script
pub mod laws
