pub mod OrderLemmas
pub mod FileLemmas
pub mod OneAnswer
pub mod SomeAnswer
pub mod AnswerLaws
