pub mod ObjectLemmas
pub mod ConstantLemmas
mod FunctionLemmas
pub mod FieldLemmas
pub mod IndexLemmas
pub mod TextLemmas
pub mod TypeLemmas
mod TypeFormLemmas
pub mod FormLemmas
