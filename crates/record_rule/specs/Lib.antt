pub mod Judged
pub mod Promised
