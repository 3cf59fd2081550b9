pub mod Integers
pub mod Divisions
