pub mod GenerateLemmas
pub mod KnownLemmas
pub mod LimitLemmas
pub mod NodeLemmas
pub mod SeenLemmas
pub mod TableLemmas
pub mod ViewLemmas
pub mod WeighingLemmas
