-- Proved laws of one outcome, that the crates above cite.
pub mod Tellings
pub mod Benches
pub mod Calls
pub mod Deliveries
pub mod Restarts
pub mod Steps
pub mod Joinings
pub mod Desks
pub mod Runs
pub mod Owners
