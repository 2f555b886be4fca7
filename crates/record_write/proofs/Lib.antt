pub mod WriteOne
pub mod RoundTrip
pub mod Unique
