pub mod Hours
pub mod Preparing
pub mod Weighing
pub mod Numbers
pub mod Making
pub mod Applied
