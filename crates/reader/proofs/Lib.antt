-- The laws of the reader.
pub mod Theorem
pub mod Promises
