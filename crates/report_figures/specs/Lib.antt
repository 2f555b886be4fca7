pub mod Passing
pub mod Hourly
