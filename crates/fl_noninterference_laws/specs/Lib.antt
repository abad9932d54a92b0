pub mod Tainted
pub mod Alike
pub mod AlikeNodes
pub mod Guarded
pub mod Endpoints
pub mod Acts
pub mod Runs
pub mod Together
