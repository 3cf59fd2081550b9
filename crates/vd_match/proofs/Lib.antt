pub mod OperationLemmas
pub mod TourLemmas
pub mod WritingLemmas
