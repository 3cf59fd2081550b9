pub mod FoundLemmas
pub mod MemberLemmas
pub mod MemoLemmas
pub mod ReadingLaws
pub mod SearchLemmas
pub mod StateLemmas
