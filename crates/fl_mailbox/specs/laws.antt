-- Proved laws that the crates above cite: of safe endpoints, and of the tables in which a process and a bench keep what they have.
pub mod Safe
pub mod Tables
