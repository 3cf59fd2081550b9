mod PairLemmas
pub mod AgreementLemmas
mod ActualLemmas
pub mod AssociationLemmas
