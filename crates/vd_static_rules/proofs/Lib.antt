pub mod RuleLemmas
mod StaticLemmas
mod ElementLemmas
mod TypeLemmas
