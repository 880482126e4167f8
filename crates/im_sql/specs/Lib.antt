pub mod Writing
pub mod Working
pub mod Entries
pub mod Ranges
