pub mod Each
pub mod Numbers
pub mod Cut
pub mod Settled
pub mod Batches
pub mod parts
