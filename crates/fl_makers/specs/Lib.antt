pub mod Making
pub mod MemMaking
