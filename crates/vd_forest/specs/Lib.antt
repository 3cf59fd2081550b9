pub mod Built
pub mod Code
pub mod Forest
pub mod Store
pub mod Texts
