pub mod OneHour
pub mod Passing
pub mod Making
