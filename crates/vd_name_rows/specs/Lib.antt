pub mod Refusals
pub mod Rows
pub mod Words
pub mod Designs
pub mod Members
pub mod Noting
pub mod Entering
pub mod Counts
