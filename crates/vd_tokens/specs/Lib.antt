pub mod Cells
pub mod Lexemes
pub mod Marks
pub mod Spellings
