pub mod Layout
pub mod PrintReading
