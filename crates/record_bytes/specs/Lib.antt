pub mod Fields
pub mod EachKind
