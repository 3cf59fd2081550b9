pub mod SlotLemmas
pub mod BracketLemmas
pub mod EffectLemmas
pub mod DesignLemmas
pub mod ReadingLemmas
