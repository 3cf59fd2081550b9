pub mod AlikeLemmas
pub mod OperatorLemmas
pub mod PartLemmas
pub mod FieldLemmas
pub mod FirstLemmas
pub mod StopLemmas
pub mod StepLemmas
pub mod JumpLemmas
