pub mod Covering
pub mod Texts
pub mod Choices
pub mod Refusals
pub mod Values
