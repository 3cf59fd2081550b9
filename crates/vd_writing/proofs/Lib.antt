pub mod HeadLemmas
pub mod PendingLemmas
pub mod StartLemmas
pub mod TableLemmas
