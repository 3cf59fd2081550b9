pub mod Assignments
pub mod Conditionals
pub mod Conditions
pub mod Generates
pub mod Operators
pub mod Selections
