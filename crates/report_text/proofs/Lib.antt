pub mod Statuses
pub mod HourLines
pub mod PartyLines
pub mod Parts
pub mod Reports
pub mod Making
pub mod Unique
