-- Relations that join functions, and that no public clause needs.
pub mod Label
pub mod First
pub mod Deque
pub mod Apart
pub mod Digits
