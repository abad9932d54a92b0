pub mod Usable
pub mod Lying
pub mod FolderMaking
