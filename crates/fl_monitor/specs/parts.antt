pub mod Checked
pub mod Demand
pub mod Acts
pub mod Holder
pub mod Slots
pub mod Could
pub mod Gathers
