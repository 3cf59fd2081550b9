pub mod Found
pub mod Readings
pub mod Search
pub mod Typed
