pub mod CallLemmas
pub mod ChainLemmas
pub mod PairLemmas
pub mod RowLemmas
