pub mod RowLemmas
pub mod StateLemmas
pub mod ViewLemmas
pub mod LookLemmas
pub mod ElementLemmas
pub mod OperatorLemmas
