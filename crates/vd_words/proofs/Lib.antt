pub mod Digits
pub mod Finding
pub mod Readings
pub mod Rows
pub mod Steps
pub mod Walks
