pub mod Torn
pub mod Outcomes
