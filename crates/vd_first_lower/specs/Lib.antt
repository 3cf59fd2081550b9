pub mod Conversions
pub mod Headline
pub mod Steps
