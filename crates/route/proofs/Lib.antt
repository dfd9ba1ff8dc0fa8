-- The laws of the route crate.
pub mod Turning
pub mod PathLaws
pub mod Length
mod Underway
mod Common
mod Zeros
pub mod Listing
pub mod Words
pub mod RefusalLaws
pub mod Promises
