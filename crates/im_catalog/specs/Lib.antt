pub mod Fronts
pub mod Parts
pub mod Found
pub mod Rows
pub mod Numbered
