pub mod Statements
pub mod Unique
