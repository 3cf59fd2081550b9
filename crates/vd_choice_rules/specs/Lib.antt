pub mod SelectingStatements
pub mod Statements
pub mod Texts
