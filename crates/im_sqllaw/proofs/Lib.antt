mod AskedLemmas
mod LawLemmas
