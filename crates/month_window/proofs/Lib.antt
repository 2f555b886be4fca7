pub mod Parts
pub mod Figures
pub mod Adding
pub mod Windows
pub mod Unique
