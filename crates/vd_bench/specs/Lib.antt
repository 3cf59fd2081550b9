pub mod Arithmetic
pub mod Logic
