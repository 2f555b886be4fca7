pub mod Hours
pub mod Walking
