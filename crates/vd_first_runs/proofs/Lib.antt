pub mod DesignLemmas
pub mod RunLemmas
pub mod ShapeLemmas
pub mod UnitLemmas
