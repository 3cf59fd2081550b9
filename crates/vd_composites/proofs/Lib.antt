mod RangeLemmas
pub mod ItemLemmas
mod StopLemmas
mod FitLaws
mod PartLaws
mod ConcatenationLaws
mod NodeLemmas
mod NodeSteps
mod ValueLemmas
mod SliceLemmas
mod ReplacedLemmas
mod JoinedLemmas
mod VectorLemmas
mod LeafLemmas
