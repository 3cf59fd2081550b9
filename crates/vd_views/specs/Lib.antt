pub mod Modes
pub mod Splits
