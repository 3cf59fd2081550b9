pub mod Agreement
pub mod Numbers
pub mod Associations
