pub mod DesignLemmas
pub mod FormLemmas
