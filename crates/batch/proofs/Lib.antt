-- The laws of the batch crate.
mod Front
pub mod Words
pub mod Promises
