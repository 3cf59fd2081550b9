pub mod Counts
pub mod Layout
pub mod ReadingBack
pub mod Writing
