pub mod OneKind
pub mod Cuts
pub mod CutExpressions
pub mod CutPorts
pub mod CutProcesses
pub mod OneDerivation
