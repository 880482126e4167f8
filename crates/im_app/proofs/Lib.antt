pub mod FoundLemmas
pub mod GeneratedLemmas
pub mod ReportLemmas
pub mod RunLemmas
pub mod ServedLemmas
pub mod UnkeptLemmas
