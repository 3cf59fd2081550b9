pub mod Commands
pub mod Given
pub mod Plans
pub mod Words
