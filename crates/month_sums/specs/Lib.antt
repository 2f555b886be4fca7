pub mod Summing
pub mod Outcomes
