pub mod Parts
pub mod Entries
pub mod Passed
pub mod Processes
pub mod Overviews
pub mod Holders
pub mod Named
