pub mod Elements
pub mod Actuals
pub mod Standing
pub mod Copied
pub mod Inside
