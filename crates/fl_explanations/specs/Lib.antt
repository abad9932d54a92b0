pub mod Lines
pub mod Why
pub mod Who
pub mod parts
