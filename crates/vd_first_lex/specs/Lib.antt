pub mod LexingExample
pub mod Lexings
pub mod Lexis
pub mod Scans
pub mod Spellings
