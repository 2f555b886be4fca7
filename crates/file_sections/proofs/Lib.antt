pub mod Walking
pub mod AcceptedFile
pub mod Unique
pub mod Told
