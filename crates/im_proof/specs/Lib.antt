pub mod HeaderChecks
pub mod TreeChecks
pub mod ChainChecks
pub mod Duals
pub mod Built
pub mod Between
