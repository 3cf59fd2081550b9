mod CoverLemmas
mod TextLemmas
pub mod ChoiceLemmas
pub mod RefusalLemmas
pub mod RuleLemmas
mod MatchLemmas
mod MatchingRefusalLemmas
mod ValueLemmas
