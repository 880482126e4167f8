pub mod Pairs
pub mod Leads
pub mod Ranges
