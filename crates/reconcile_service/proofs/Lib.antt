pub mod Figures
pub mod Order
pub mod Unique
pub mod AddUp
