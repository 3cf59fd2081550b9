pub mod Offsets
pub mod Noted
pub mod Copied
pub mod Sources
