-- What private functions give and write.
pub mod Owners
pub mod Pieces
