pub mod Script
pub mod Arguments
