pub mod Ends
pub mod Judged
pub mod Runs
pub mod Shows
pub mod Stops
pub mod Turns
