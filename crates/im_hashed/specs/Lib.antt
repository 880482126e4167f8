pub mod Messages
pub mod Added
pub mod Places
