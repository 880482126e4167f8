pub mod LineChecks
pub mod Folds
pub mod Texts
