pub mod Grammar
pub mod Reading
pub mod laws
pub mod parts
