pub mod Carried
pub mod Walked
