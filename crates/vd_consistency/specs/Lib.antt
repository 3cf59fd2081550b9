pub mod Consistency
pub mod Invariants
