pub mod Kinds
pub mod Pieces
pub mod Seen
pub mod StandIns
