pub mod Planned
pub mod Promised
