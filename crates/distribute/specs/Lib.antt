pub mod Parts
pub mod Good
pub mod Shares
pub mod Demand
pub mod Written
