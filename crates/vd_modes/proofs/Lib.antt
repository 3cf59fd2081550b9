pub mod CheckLemmas
pub mod LineLemmas
pub mod ConversionLaws
pub mod SamenessLemmas
