pub mod Known
pub mod Parts
pub mod Values
pub mod Jumps
