pub mod OperandLemmas
pub mod PassingLemmas
