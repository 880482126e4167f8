pub mod CountLemmas
pub mod EdgeLemmas
pub mod FreshLemmas
pub mod GrowthLemmas
pub mod LevelLemmas
pub mod PartLemmas
pub mod ReadLemmas
pub mod WalkLemmas
