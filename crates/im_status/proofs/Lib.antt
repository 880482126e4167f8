pub mod FateLemmas
pub mod GrammarLemmas
pub mod LinkedLemmas
pub mod NumberLemmas
pub mod ShownLemmas
pub mod VerdictLemmas
