pub mod PassLemmas
pub mod TableLemmas
pub mod PlaceLemmas
pub mod StepLemmas
pub mod SettledLemmas
pub mod DesignLemmas
