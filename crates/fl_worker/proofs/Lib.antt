pub mod Lists
pub mod Doing
