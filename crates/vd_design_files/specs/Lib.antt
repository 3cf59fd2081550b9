pub mod InOrder
pub mod Files
pub mod Ends
pub mod Laws
