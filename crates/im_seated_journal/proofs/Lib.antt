pub mod BatchLemmas
pub mod BeginLemmas
pub mod CallLemmas
pub mod MadeLemmas
pub mod SeatReads
pub mod ServeLemmas
pub mod StartLemmas
pub mod StepLemmas
