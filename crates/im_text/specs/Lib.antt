pub mod Cuts
pub mod Fields
pub mod Finds
pub mod Lines
pub mod Words
