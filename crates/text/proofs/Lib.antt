pub mod Puts
pub mod Stands
pub mod Digits
pub mod Signs
pub mod Column
pub mod Runs
pub mod RefusalLine
pub mod Unique
