pub mod FieldLemmas
pub mod FrontLemmas
pub mod OctetLemmas
pub mod OrderLemmas
pub mod ReadLemmas
pub mod RowLemmas
