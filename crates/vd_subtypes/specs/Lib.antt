pub mod Heads
pub mod Operands
pub mod Positional
pub mod Laws
pub mod Nodes
pub mod Codes
pub mod Stacks
