pub mod Causes
pub mod Disk
pub mod Fused
pub mod Grown
pub mod Moments
pub mod Recorded
pub mod Records
pub mod Stored
