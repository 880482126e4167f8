pub mod Events
pub mod Gates
pub mod Reached
