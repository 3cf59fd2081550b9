pub mod SplitLemmas
pub mod TourLemmas
