pub mod HeaderLemmas
pub mod NamedLemmas
