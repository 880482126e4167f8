pub mod PairLemmas
pub mod UpLemmas
pub mod HeaderLemmas
pub mod EntryLemmas
