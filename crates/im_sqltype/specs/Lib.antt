pub mod Kinds
pub mod Orders
pub mod Reading
pub mod Texts
pub mod Total
