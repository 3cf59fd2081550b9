pub mod Coming
pub mod Judges
pub mod Rows
pub mod Looking
pub mod Designs
pub mod Elements
