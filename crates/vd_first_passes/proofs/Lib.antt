pub mod FlavourLemmas
pub mod LoweringLemmas
pub mod ValidityLemmas
pub mod WrittenLemmas
