pub mod TypeLemmas
pub mod ChoiceLemmas
pub mod HeaderLemmas
pub mod TyingLemmas
pub mod BodyLemmas
