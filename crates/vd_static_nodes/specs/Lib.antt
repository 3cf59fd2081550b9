pub mod Choices
pub mod Elements
pub mod Ranges
pub mod Arguments
pub mod Calls
