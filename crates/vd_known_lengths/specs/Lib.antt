pub mod Extents
pub mod Holding
pub mod Kinds
pub mod Shapes
