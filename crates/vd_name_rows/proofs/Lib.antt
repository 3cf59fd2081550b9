pub mod MemberLemmas
pub mod NoteLemmas
pub mod RoomLemmas
pub mod GrowthLemmas
