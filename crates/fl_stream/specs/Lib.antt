pub mod Turns
pub mod Output
pub mod Served
pub mod Intake
pub mod Driving
pub mod laws
