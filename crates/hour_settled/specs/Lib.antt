pub mod Column
pub mod Sums
