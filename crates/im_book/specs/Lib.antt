pub mod Booked
pub mod Keyed
pub mod Lasts
