pub mod GraphicLemmas
pub mod LineLemmas
pub mod NeighbourLemmas
pub mod ReadLemmas
