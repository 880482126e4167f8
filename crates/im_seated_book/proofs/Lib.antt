pub mod RecordLemmas
pub mod RootLemmas
pub mod SeatLemmas
