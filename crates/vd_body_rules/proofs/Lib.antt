pub mod ItemLemmas
pub mod LikenessLemmas
pub mod SameLemmas
pub mod SayingLemmas
pub mod WordLemmas
pub mod StateLemmas
pub mod TextLemmas
pub mod WalkLemmas
