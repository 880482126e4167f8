pub mod Sounding
pub mod Stepping
