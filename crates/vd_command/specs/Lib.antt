pub mod Endings
pub mod EqualRuns
pub mod Headline
pub mod Outcomes
pub mod Words
