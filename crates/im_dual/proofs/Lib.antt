pub mod AdvanceLemmas
pub mod AnchorLemmas
pub mod FrontLemmas
pub mod KeptLemmas
pub mod PassLemmas
pub mod RecordLemmas
