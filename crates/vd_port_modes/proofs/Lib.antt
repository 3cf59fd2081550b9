mod CountLemmas
pub mod CopyLemmas
pub mod TableLemmas
pub mod ReachLemmas
