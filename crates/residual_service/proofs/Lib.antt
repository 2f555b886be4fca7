pub mod Silent
pub mod Hours
pub mod InTurn
