-- The laws of the address crate.
pub mod ChoiceLaws
pub mod OrderLaws
pub mod Decided
pub mod Numbers
pub mod Steps
pub mod Answers
pub mod Ancestors
pub mod KindLaws
pub mod RefusalLaws
pub mod Promises
