pub mod Generics
pub mod Pieces
