pub mod Order
pub mod Thresholds
pub mod Arrays
pub mod Unique
