pub mod Passes
pub mod EndKinds
pub mod Places
pub mod Kinds
pub mod Done
pub mod Inside
pub mod Designs
