pub mod Making
pub mod Given
