-- What joins functions, and no public clause needs.
pub mod Coming
