pub mod Designs
pub mod PastSignals
pub mod RoundSteps
pub mod Steps
pub mod TracedSteps
pub mod EarliestTimeouts
