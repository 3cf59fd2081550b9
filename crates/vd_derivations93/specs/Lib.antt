pub mod Laws
pub mod Depths
