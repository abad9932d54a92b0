pub mod Deals
pub mod Homes
pub mod Popped
pub mod Gathers
pub mod Answering
