pub mod Joins
pub mod Maps
