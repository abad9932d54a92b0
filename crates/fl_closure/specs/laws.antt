-- Proved laws that the crates above cite: of answers, and of what questions came upon.
pub mod Told
pub mod Witnesses
