pub mod Weights
pub mod Copies
pub mod Limits
pub mod Tables
pub mod Weighing
