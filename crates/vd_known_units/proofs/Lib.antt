mod StateLemmas
mod WalkLemmas
mod KindLemmas
mod CopyLemmas
mod InstanceLemmas
pub mod PassingLemmas
