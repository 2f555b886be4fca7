pub mod Hour
pub mod Promised
