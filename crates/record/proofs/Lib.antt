pub mod Bytes
pub mod BodyShort
pub mod EveryEntry
pub mod Decoding
pub mod Unique
