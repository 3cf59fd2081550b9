pub mod FirstLemmas
pub mod EqualRuns
pub mod HeadlineLemmas
pub mod JobLemmas
pub mod OneOutcome
pub mod SomeOutcome
pub mod WordsLemmas
