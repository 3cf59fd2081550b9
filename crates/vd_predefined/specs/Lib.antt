pub mod Entries
pub mod Lines
pub mod Table
pub mod Seen
pub mod Operators
pub mod Clashes
pub mod Given
pub mod GivenClashes
