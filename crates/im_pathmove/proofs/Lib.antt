pub mod CarryLemmas
pub mod WalkLemmas
pub mod TurnLemmas
