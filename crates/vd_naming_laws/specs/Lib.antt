pub mod Keeping
pub mod Laws
pub mod Example
pub mod Numbers
pub mod NumberLaws
