pub mod Arithmetic
pub mod Attributes
pub mod Texts
pub mod Applied
pub mod Support
