pub mod Ends
pub mod Showing
pub mod Sizes
