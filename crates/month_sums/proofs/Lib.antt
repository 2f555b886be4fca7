pub mod Adding
pub mod Going
pub mod Chain
pub mod Outcomes
