pub mod AskedLemmas
pub mod PlaceLemmas
pub mod RefusalLemmas
