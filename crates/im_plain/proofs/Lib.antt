pub mod PlainLemmas
pub mod ReadingLemmas
