pub mod Demands
pub mod Distribution
