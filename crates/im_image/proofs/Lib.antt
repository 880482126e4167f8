pub mod CallLemmas
pub mod ImageLemmas
pub mod PieceLemmas
pub mod RemainLemmas
pub mod StayLemmas
pub mod WithinLemmas
