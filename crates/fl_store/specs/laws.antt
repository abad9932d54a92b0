-- Proved laws that the crates above cite: of sets and lists of operations that are kept, and of their names.
pub mod KeptSets
pub mod Unused
