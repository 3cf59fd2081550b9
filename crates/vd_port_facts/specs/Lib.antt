pub mod Needed
pub mod Reading
pub mod Seeking
pub mod Tables
