pub mod Drafts
pub mod Rows
pub mod Checks
pub mod Laws
