pub mod Generated
pub mod Runs
