pub mod Objects
pub mod Arrays
pub mod Fields
pub mod Texts
pub mod Views
