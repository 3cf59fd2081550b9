pub mod Folders
pub mod TrayLemmas
pub mod ReadSteps
