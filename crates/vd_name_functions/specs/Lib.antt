pub mod Headers
pub mod Tying
pub mod Bodies
