pub mod Lines
pub mod Reporting
