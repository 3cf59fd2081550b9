pub mod ConditionLemmas
pub mod ConditionalLemmas
pub mod GenerateLemmas
pub mod SelectionLemmas
