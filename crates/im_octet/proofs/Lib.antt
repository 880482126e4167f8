pub mod Common
pub mod FieldLemmas
pub mod PartLemmas
pub mod PlaceLemmas
