pub mod Codes
pub mod Stacks
pub mod Trees
pub mod Validity
