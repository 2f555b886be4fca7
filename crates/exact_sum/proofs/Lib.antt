pub mod Nothing
pub mod Parts
