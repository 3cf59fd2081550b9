pub mod AcceptanceLemmas
pub mod ExpressionNames
pub mod OneAcceptance
pub mod UnknownFound
pub mod UnknownLaws
pub mod UnknownLemmas
