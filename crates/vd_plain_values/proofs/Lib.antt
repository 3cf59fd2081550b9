pub mod LiteralLemmas
pub mod OperandLemmas
pub mod StringLemmas
