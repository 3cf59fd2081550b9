mod HeadLemmas
mod NodeLemmas
mod StackLemmas
mod PositionalLemmas
