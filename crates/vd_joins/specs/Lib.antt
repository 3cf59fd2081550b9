pub mod Joins
pub mod Behind
pub mod Levels
