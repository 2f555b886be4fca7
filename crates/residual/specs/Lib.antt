pub mod Applied
pub mod Hour
pub mod Promised
