pub mod Beginning
pub mod Certain
pub mod InMemory
pub mod TwoRuns
