pub mod CutLemmas
pub mod GivenLemmas
pub mod LayoutLemmas
pub mod LaidLines
pub mod ReadsBack
pub mod SpelledTexts
