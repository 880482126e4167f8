pub mod Checks
pub mod Inclusion
pub mod Kept
pub mod PathChecks
pub mod Subtrees
pub mod Ways
