pub mod Numbering
pub mod Operations
pub mod Resolved
