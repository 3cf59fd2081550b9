pub mod Kinds
pub mod Walking
pub mod Copies
pub mod Units
pub mod Passing
