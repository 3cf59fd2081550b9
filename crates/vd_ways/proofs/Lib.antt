pub mod PositionLemmas
pub mod WorkedLemmas
