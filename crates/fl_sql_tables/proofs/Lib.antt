pub mod Texts
mod Symbolic
pub mod Inserts
pub mod Selects
pub mod Creates
pub mod Starting
pub mod BootLemmas
pub mod SetLemmas
pub mod SpellingLemmas
pub mod OpLemmas
pub mod StateLemmas
pub mod QueryLemmas
pub mod ItselfLemmas
pub mod FailLemmas
pub mod FoundLemmas
pub mod LoadLemmas
pub mod OwnLemmas
pub mod MigrateLemmas
