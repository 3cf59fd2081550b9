mod FoldingLemmas
pub mod FoldingLaws
pub mod FormLaws
mod InheritingLemmas
pub mod InheritingLaws
mod RewritingLemmas
pub mod RewritingLaws
