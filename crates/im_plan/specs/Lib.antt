pub mod Bounds
pub mod Plans
pub mod Ordered
