pub mod Lent
pub mod NoSecond
pub mod NothingWritten
