pub mod OneRecord
pub mod Readers
pub mod FieldsRead
pub mod Unique
