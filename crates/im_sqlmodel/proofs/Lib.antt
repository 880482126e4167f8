pub mod LevelLemmas
pub mod KeptLemmas
pub mod OnceLemmas
pub mod SortLemmas
pub mod CarriedLemmas
