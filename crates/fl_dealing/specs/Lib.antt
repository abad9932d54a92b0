pub mod Items
pub mod Dealt
pub mod Shown
pub mod Gathered
pub mod Answered
pub mod parts
