pub mod Folding
pub mod Forms
pub mod Inheriting
pub mod Rewriting
