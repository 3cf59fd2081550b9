pub mod FindingLemmas
pub mod OrderLaws
pub mod LeastLaws
pub mod LeastLemmas
pub mod GatheringLemmas
mod WalkingLemmas
pub mod PositionLemmas
mod StackLemmas
mod VisitLemmas
