-- What follows from the definitions, for the proofs of the crates above.
pub mod Lines
pub mod Hearing
pub mod Driving
