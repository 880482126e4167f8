pub mod Batches
pub mod Damages
pub mod Places
pub mod Reading
pub mod Records
pub mod Spans
pub mod Standing
