pub mod Lex
pub mod Input
pub mod Cursor
pub mod Values
pub mod Lists
pub mod Conditions
pub mod Statements
pub mod Formed
