pub mod Evaluated
pub mod Operands
pub mod Outlines
pub mod Pieces
pub mod Senses
pub mod Taken
