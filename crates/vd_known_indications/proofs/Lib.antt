mod IndicationLemmas
pub mod PlaceLemmas
mod KindLemmas
mod TreeLemmas
