pub mod NodeFile
pub mod Failing
pub mod Reach
pub mod Keeping
pub mod Given
pub mod DirMaking
