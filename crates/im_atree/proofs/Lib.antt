pub mod ExtendLemmas
pub mod GrowLemmas
pub mod PassLemmas
