pub mod Comparing
pub mod Items
pub mod Words
pub mod Texts
pub mod Walk
