pub mod WorkedCases
pub mod WorkedMonths
pub mod WorkedServices
