pub mod Constraints
pub mod Places
pub mod Found
pub mod Kinds
