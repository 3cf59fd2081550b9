pub mod LogicTables
pub mod Matching
pub mod Resolution
pub mod Times
