pub mod Computed
pub mod Scalars
