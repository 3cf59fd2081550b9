pub mod ErasedLemmas
pub mod NameLemmas
pub mod OperationLemmas
pub mod ResolvedLemmas
