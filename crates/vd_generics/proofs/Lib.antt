pub mod TourLemmas
