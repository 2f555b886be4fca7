pub mod Bounds
pub mod Settling
pub mod Carrying
pub mod Windows
pub mod Opening
pub mod Walking
pub mod Judging
pub mod Chain
