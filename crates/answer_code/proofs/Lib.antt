pub mod Told
pub mod ReadBack
pub mod Exact
