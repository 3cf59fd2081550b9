mod ElementLemmas
mod ActualFunctionLemmas
pub mod ActualLemmas
mod StandingLemmas
mod ConstantLemmas
mod CopyLemmas
mod FunctionLemmas
mod InstanceLemmas
