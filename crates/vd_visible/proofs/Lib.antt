pub mod NameLemmas
pub mod TypeLemmas
pub mod CharacterLemmas
pub mod FilterLemmas
pub mod TypeListLemmas
pub mod PortLemmas
