pub mod Only
pub mod Finding
pub mod Unique
