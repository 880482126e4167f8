pub mod Same
pub mod Parted
