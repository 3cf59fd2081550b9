pub mod ForeignLemmas
pub mod NumberLemmas
pub mod ReachingLemmas
pub mod WalkLemmas
