pub mod CountLemmas
pub mod HeaderLemmas
pub mod HistoryLemmas
pub mod Lengths
pub mod Reversed
pub mod Steps
pub mod TreeLemmas
