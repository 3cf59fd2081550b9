pub mod PieceLemmas
pub mod SenseLemmas
pub mod TreeLemmas
