pub mod Views
pub mod References
pub mod Rules
pub mod Known
pub mod Histories
pub mod Passes
pub mod Records
