pub mod LinearLemmas
