pub mod ByLevel
pub mod Counts
pub mod Edges
pub mod Leveled
