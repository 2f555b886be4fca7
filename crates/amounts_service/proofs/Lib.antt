pub mod Hours
pub mod Judging
pub mod Limit
pub mod Pricing
pub mod Passes
