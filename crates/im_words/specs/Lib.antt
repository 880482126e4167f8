pub mod Command
pub mod Meaning
pub mod Form
