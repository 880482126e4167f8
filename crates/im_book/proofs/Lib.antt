pub mod BookLemmas
pub mod JudgeLemmas
pub mod KeyedLemmas
pub mod LastLemmas
pub mod RootLemmas
