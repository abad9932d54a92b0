pub mod FileKeeping
