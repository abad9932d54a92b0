pub mod Step
pub mod Chain
pub mod Least
pub mod Giver
pub mod Roots
pub mod Rising
pub mod Leading
pub mod parts
