mod ListLemmas
mod PassLemmas
mod ShiftLemmas
pub mod SupportLemmas
