-- What follows from the definitions, for proofs of the crates above.
pub mod Calling
pub mod Replies
