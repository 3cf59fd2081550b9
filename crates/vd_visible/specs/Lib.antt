pub mod Sights
pub mod Kinds
pub mod Types
pub mod Lists
pub mod Brackets
pub mod TypeLists
