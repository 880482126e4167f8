pub mod CutLemmas
pub mod DecideLemmas
pub mod FindsLemmas
pub mod LineLemmas
pub mod WordLemmas
