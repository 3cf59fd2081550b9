pub mod Dues
pub mod Endings
pub mod Outcomes
