pub mod ElementLemmas
pub mod PartLemmas
pub mod SeekLemmas
pub mod PortLemmas
pub mod ViewLemmas
pub mod InstanceLemmas
