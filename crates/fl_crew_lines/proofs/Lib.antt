pub mod Opening
pub mod Serving
pub mod Bringing
pub mod Unions
