pub mod InRun
pub mod Running
pub mod Run
