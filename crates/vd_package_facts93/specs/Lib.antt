pub mod Support
pub mod Matching
pub mod FirstChoice
pub mod Instances
pub mod Links
pub mod Facts
