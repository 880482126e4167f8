pub mod Attrs
pub mod Refusals
