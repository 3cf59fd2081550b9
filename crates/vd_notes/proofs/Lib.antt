pub mod EntryLemmas
pub mod MakerLemmas
pub mod TableLemmas
