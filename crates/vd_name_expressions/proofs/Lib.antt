pub mod LastLemmas
pub mod ReadLemmas
pub mod WholeLemmas
pub mod ExpressionReadLemmas
pub mod StayLemmas
