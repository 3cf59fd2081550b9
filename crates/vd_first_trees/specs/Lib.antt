pub mod Forms
pub mod Validity
