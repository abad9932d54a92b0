-- What follows from the definitions, for proofs of the crates above.
pub mod Counting
pub mod Settling
pub mod Statuses
