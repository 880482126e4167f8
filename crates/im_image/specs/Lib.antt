pub mod Pieces
pub mod Remains
pub mod Stretches
