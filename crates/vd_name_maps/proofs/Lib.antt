pub mod ElementLemmas
pub mod LeftLemmas
pub mod ValueLemmas
pub mod ActualLemmas
pub mod ActualsLemmas
pub mod ElementsLemmas
pub mod StayLemmas
