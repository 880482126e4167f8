pub mod MomentLemmas
pub mod OpenLemmas
