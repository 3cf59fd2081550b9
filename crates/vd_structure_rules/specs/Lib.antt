pub mod Statements
pub mod Loops
pub mod Functions
pub mod Names
pub mod Choices
pub mod StructureRules
