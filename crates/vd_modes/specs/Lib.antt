pub mod Checks
pub mod Texts
pub mod Conversions
pub mod Dues
pub mod Sameness
