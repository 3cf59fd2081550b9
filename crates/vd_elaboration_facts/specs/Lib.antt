pub mod Designs
pub mod Hierarchies
