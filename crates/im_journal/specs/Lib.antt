pub mod Durable
pub mod Faults
pub mod Holding
pub mod Kept
pub mod Made
pub mod Phases
pub mod Pieces
pub mod Values
