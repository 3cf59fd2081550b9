pub mod DivisionLemmas
