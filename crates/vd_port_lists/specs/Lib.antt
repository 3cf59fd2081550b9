pub mod FirstTrees
pub mod Listed
pub mod Modes
pub mod Named
pub mod Seeking
