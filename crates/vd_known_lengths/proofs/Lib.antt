pub mod DesignLemmas
pub mod MeasuredLemmas
pub mod OperandLemmas
pub mod OverLemmas
pub mod SubtypeLemmas
pub mod TreeLemmas
