pub mod Made
pub mod Ended
pub mod Entered
pub mod Tables
