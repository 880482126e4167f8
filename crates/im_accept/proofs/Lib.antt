pub mod CutLemmas
pub mod DigitLemmas
pub mod FactLemmas
pub mod LfLemmas
pub mod PassLemmas
pub mod ReplyLemmas
pub mod TakenLemmas
pub mod SessionLemmas
