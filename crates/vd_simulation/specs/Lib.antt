pub mod Designs
pub mod Rounds
pub mod Simulations
pub mod TracedSteps
pub mod Turns
