pub mod Made
pub mod Parts
pub mod Attributes
pub mod Conversions
