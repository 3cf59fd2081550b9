pub mod Heads
pub mod Pending
pub mod Starts
