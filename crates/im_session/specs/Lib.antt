pub mod Answered
pub mod Statements
pub mod Served
