pub mod OneFault
pub mod Parsed
