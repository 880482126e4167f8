pub mod SameLemmas
pub mod PartLemmas
pub mod EntryLemmas
