pub mod Digits
pub mod Growth
pub mod Turning
pub mod Spreading
pub mod Summing
