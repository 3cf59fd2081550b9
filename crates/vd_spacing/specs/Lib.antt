pub mod ReadingBack
pub mod Spacing
