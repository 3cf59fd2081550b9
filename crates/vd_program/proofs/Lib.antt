pub mod EndingLemmas
pub mod FilesLemmas
pub mod ReadyLemmas
