pub mod Unserving
pub mod Sizes
pub mod Serving
pub mod Making
pub mod Ended
