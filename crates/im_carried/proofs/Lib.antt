pub mod ChainLemmas
pub mod AdvanceLemmas
pub mod OpenLemmas
pub mod HeldLemmas
pub mod ShowLemmas
pub mod PassLemmas
