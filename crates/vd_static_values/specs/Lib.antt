pub mod Entries
pub mod Names
pub mod Nodes
pub mod Senses
pub mod Finding
pub mod Operands
pub mod Characters
pub mod Levels
