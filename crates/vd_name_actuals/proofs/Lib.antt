pub mod KindLemmas
pub mod TypeLemmas
pub mod TypeOutcomeLemmas
