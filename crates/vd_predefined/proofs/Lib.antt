pub mod GrowthLemmas
pub mod NoClashLemmas
