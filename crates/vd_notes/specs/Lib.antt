pub mod Entries
pub mod Lefts
pub mod Makers
pub mod Rows
