pub mod DeriveLemmas
pub mod PrintLemmas
