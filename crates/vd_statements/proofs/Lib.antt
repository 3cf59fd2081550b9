pub mod TourLemmas
pub mod WordLemmas
