pub mod IndefiniteLemmas
pub mod LengthLemmas
pub mod OperandLemmas
pub mod ReadyLemmas
pub mod RefusalLemmas
pub mod SortLemmas
pub mod TypeLemmas
