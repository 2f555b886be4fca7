pub mod NoSecond
pub mod NothingWritten
