pub mod Items
pub mod Lexis
pub mod Pieces
pub mod Scans
pub mod Spelled
pub mod WorkedItems
