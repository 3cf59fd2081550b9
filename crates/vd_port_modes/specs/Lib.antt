pub mod Code
pub mod Counts
pub mod Readings
pub mod Source
pub mod Tables
