pub mod Passes
pub mod Promised
