pub mod Follow
pub mod Promised
