pub mod Acceptance
pub mod Steps
pub mod Unknown
