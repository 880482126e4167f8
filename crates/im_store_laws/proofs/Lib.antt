pub mod EventLemmas
pub mod BatchEvents
pub mod BesideEvents
pub mod ReachedEvents
pub mod OpenEvents
