pub mod Damages
pub mod Fates
pub mod GeneratedLines
pub mod Numbers
pub mod Scripts
pub mod Statuses
