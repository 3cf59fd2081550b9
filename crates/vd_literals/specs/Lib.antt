pub mod Bits
pub mod Numbers
pub mod Quoted
pub mod Runs
pub mod Values
