pub mod Elaboration
pub mod Expressions
pub mod Interfaces
pub mod Ports
pub mod Processes
pub mod Signals
pub mod Tops
pub mod Traces
