mod PassedLemmas
pub mod RowLemmas
