pub mod AddingLemmas
pub mod InstanceLemmas
