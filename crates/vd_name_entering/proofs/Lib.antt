pub mod JoiningLemmas
pub mod EnteringLemmas
pub mod NamedLemmas
pub mod NumberLemmas
