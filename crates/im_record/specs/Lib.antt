pub mod Writing
pub mod Heads
pub mod Keys
pub mod Slots
pub mod Back
