pub mod Shapes
pub mod Machine
pub mod Standing
pub mod Answers
pub mod Rows
pub mod Reading
