pub mod KeepLemmas
pub mod FoundLemmas
pub mod CauseLemmas
pub mod RewriteLemmas
pub mod CloseLemmas
