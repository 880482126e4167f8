pub mod Fields
pub mod Fits
pub mod Gives
pub mod Headers
pub mod Lines
pub mod Messages
pub mod Texts
pub mod Tokens
