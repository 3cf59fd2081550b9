pub mod Conversions
pub mod Facts
pub mod Flavours
pub mod Naturals
pub mod Passes
pub mod Ports
pub mod Sorts
pub mod Wants
