pub mod Fronts
pub mod Follows
pub mod Answering
pub mod Alike
pub mod Turns
pub mod Made
