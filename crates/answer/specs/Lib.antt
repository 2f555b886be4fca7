pub mod Said
pub mod Ranges
pub mod Promised
