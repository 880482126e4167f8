pub mod Events
pub mod DiskEvents
