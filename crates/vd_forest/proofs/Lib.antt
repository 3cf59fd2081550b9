mod BuiltLemmas
mod CopyLemmas
pub mod ForestLemmas
pub mod StoreLemmas
pub mod TextLemmas
