pub mod BehindLemmas
pub mod JoinLemmas
pub mod LeftLemmas
