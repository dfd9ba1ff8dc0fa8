-- The laws of the line crate.
mod Fills
mod Texts
mod Digits
mod Parsed
pub mod Replies
pub mod Exact
pub mod RefusalLaws
pub mod DecimalLaws
pub mod EdgeLaws
pub mod Promises
