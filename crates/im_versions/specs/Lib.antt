pub mod Versions
pub mod Admits
pub mod Changes
