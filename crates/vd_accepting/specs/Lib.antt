pub mod Phases
pub mod Accepting
pub mod Levels
pub mod Walking
