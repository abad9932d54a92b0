pub mod Over
pub mod Causes
pub mod Sound
pub mod Telling
pub mod parts
pub mod Checking
pub mod Desks
pub mod Foresight
