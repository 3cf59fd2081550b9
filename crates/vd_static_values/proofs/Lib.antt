pub mod FoundLemmas
pub mod OperationLemmas
pub mod CharacterLemmas
pub mod StringLemmas
pub mod SubtypeLemmas
pub mod ElementLemmas
pub mod LevelLemmas
pub mod AttributeLemmas
