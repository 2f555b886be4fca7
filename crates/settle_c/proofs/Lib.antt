pub mod Told
pub mod Hour
