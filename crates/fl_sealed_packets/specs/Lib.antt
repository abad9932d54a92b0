pub mod Sealing
pub mod Coming
pub mod Ours
pub mod parts
