pub mod Judging
pub mod ReadOne
pub mod Unique
