pub mod KindLemmas
pub mod PairLemmas
pub mod SideLemmas
