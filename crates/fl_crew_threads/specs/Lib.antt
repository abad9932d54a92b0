pub mod Receiving
pub mod Registers
pub mod Told
