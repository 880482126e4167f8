pub mod Burning
pub mod Growing
pub mod Leaving
pub mod Recording
pub mod Tearing
