pub mod Trees
pub mod Paths
pub mod Growth
pub mod Chains
pub mod Counts
pub mod Entries
pub mod Headers
pub mod History
