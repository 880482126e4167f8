pub mod LogLemmas
pub mod PlaceLemmas
pub mod RoomLemmas
pub mod ShowLemmas
pub mod StandLemmas
