-- Relations that join functions, and that no public clause needs.
pub mod Delivering
pub mod Highest
pub mod Joined
pub mod Published
pub mod There
