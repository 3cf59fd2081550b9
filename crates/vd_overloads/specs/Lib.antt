pub mod Goals
pub mod GoalLaws
pub mod Environment
pub mod Interpretations
pub mod Laws
