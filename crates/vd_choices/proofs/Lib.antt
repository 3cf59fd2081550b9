pub mod CoverLemmas
pub mod PatternLemmas
pub mod Sweeps
pub mod TextLemmas
