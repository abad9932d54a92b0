pub mod DeskSees
pub mod Views
pub mod Making
pub mod Whole
pub mod Foretold
pub mod Lacking
