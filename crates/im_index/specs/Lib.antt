pub mod Fronts
pub mod Indexed
pub mod Keys
pub mod Marks
pub mod Newest
pub mod Runs
