pub mod Bits
pub mod Intervals
pub mod Patterns
pub mod TextOrder
pub mod Texts
