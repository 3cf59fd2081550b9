pub mod Flavour
pub mod Lowering
