pub mod Code
pub mod Named
pub mod Seen
pub mod Values
pub mod Kinds
pub mod Maps
pub mod Pairs
