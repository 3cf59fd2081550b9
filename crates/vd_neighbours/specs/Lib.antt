pub mod Neighbours
pub mod Pairs
