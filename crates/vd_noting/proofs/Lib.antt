pub mod NotingLemmas
