pub mod Filled
pub mod Tests
pub mod Threshold
