pub mod Over
pub mod Goes
pub mod Closing
pub mod Failing
pub mod Texts
pub mod Joining
pub mod parts
pub mod laws
