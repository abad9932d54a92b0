pub mod WorkLemmas
pub mod BringLemmas
