pub mod Clocks
pub mod Keepers
pub mod Sinks
pub mod Sources
