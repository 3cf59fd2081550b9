pub mod Limits
pub mod Printing
pub mod Tracings
