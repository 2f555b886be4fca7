pub mod Planning
pub mod Promised
