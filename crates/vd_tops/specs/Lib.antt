pub mod TopNames
pub mod Tops
