mod ConditionLemmas
mod LevelLemmas
pub mod LineLemmas
mod PieceLemmas
mod RunLemmas
mod SelectLemmas
mod StackLemmas
