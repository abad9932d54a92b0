pub mod Naming
pub mod Saying
pub mod Turning
pub mod Failures
