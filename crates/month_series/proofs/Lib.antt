pub mod Weights
pub mod OneHour
pub mod Series
pub mod Judging
pub mod OneReading
