pub mod Bounds
pub mod ByCarries
pub mod Widening
