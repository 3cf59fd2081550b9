pub mod ElementLemmas
pub mod LibraryLemmas
pub mod MeantLemmas
pub mod PieceLemmas
