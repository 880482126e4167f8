pub mod AnswerLemmas
pub mod ConditionLemmas
pub mod DigitLemmas
pub mod NameLemmas
pub mod TextLemmas
pub mod ToldLemmas
