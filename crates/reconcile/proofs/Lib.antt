pub mod Sizes
pub mod Settled
