pub mod Regions
pub mod Closings
pub mod Designators
pub mod TextRules
