pub mod UnitsDeclared
pub mod Opened
