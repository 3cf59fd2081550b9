mod AllGroupLemmas
pub mod GroupLemmas
pub mod LevelLemmas
pub mod WalkLemmas
