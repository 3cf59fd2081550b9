pub mod GoalLemmas
pub mod ReachLemmas
pub mod MemberLemmas
pub mod PossibleLemmas
pub mod InterpretationLaws
pub mod OverloadLemmas
