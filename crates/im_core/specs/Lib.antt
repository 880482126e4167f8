pub mod Answers
pub mod Cores
pub mod Foretold
pub mod Opened
pub mod Parts
pub mod Staged
