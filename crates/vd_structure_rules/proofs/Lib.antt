pub mod RuleLemmas
pub mod TableLemmas
