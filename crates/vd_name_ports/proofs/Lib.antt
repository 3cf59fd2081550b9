pub mod AssociationLemmas
pub mod ConversionLemmas
pub mod FrontLemmas
pub mod MapLemmas
