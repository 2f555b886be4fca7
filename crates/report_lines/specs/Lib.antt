pub mod HourText
pub mod Rooms
