pub mod Designs
pub mod Elaborations
pub mod Places
pub mod Runs
pub mod Shapes
pub mod TopNames
pub mod Units
