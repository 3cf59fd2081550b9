pub mod BitsLemmas
pub mod QuotedLemmas
pub mod RunLemmas
pub mod ValueLemmas
