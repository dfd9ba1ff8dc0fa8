-- The laws of the search crate.
pub mod SearchLaws
pub mod Ones
pub mod Prefixes
pub mod Words
pub mod Promises
