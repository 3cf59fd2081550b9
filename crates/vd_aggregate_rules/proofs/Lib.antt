mod AggregateLemmas
mod AnswerLemmas
mod ChoiceLemmas
mod ElementLemmas
mod FieldLemmas
mod SpanLemmas
