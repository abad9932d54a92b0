pub mod KeyText
pub mod Refusing
