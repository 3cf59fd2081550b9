pub mod LogLemmas
pub mod KnownLemmas
pub mod DeclaredLemmas
pub mod ShapeLemmas
pub mod DesignLemmas
pub mod MarkLemmas
