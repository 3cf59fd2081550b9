pub mod OneTracing
pub mod PrintLemmas
pub mod RunLemmas
pub mod TextLemmas
