pub mod OneHour
pub mod Sizes
pub mod Series
pub mod Unique
