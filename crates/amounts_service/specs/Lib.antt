pub mod Service
pub mod Promised
