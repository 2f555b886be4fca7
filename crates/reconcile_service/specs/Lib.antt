pub mod Told
pub mod Shape
