pub mod Gln
pub mod Promised
