pub mod Lengths
pub mod Hours
pub mod Passes
pub mod Demand
