pub mod Going
pub mod Finishing
pub mod Messages
pub mod Opening
pub mod Closings
pub mod Bringing
pub mod AskingLemmas
pub mod Failures
