pub mod Alias
pub mod TargetText
pub mod Table
pub mod Roomy
pub mod Expansion
pub mod Words
pub mod laws
