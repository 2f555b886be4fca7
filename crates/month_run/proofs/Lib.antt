pub mod Verdicts
pub mod Answers
pub mod OneHour
pub mod Going
pub mod MonthSums
