pub mod Theorems
pub mod Unique
pub mod Distribution
pub mod SecondAfterFirst
