pub mod Logics
pub mod Logical
pub mod Shifts
pub mod Matching
pub mod Orders
pub mod Laws
pub mod Moves
pub mod Support
