pub mod Order
pub mod Given
