pub mod Standpoints
pub mod Checked
pub mod DepthLemmas
pub mod ReadingLemmas
