pub mod BuiltRun
pub mod PlacedWalk
pub mod PlacedFaults
pub mod FormLemmas
pub mod GenLemmas
pub mod UseLemmas
pub mod AskedLemmas
pub mod AnswerLemmas
