-- Relations that join functions. What the index answers is said by the definitions of fl_ops alone.
pub mod Block
pub mod Bits
pub mod Row
pub mod Rows
pub mod Closed
pub mod Noted
pub mod Absorbed
pub mod Globals
pub mod Knowing
pub mod Closure
