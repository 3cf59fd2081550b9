mod AlternativeLemmas
mod SelectorLemmas
mod SelectingLemmas
mod ScalarLemmas
mod RuleLemmas
mod StatementLemmas
mod CountLemmas
mod KnownLemmas
mod SeenLemmas
pub mod TextLemmas
