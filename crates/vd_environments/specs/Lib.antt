pub mod Got
pub mod Environments
pub mod Commands
pub mod Functions
pub mod Processes
