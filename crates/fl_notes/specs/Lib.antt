pub mod Bringing
pub mod Working
