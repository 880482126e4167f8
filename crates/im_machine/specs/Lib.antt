pub mod Allowed
pub mod Answers
pub mod Kept
pub mod Machines
pub mod Runs
pub mod Steps
