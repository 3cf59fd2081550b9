pub mod Operations
pub mod Packages
pub mod Support
pub mod Writings
