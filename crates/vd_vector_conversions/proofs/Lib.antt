pub mod SpreadingLemmas
pub mod WholeLemmas
