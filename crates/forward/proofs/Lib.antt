-- The laws of the forward crate.
pub mod Rules
pub mod Hops
pub mod Looked
pub mod RefusalLaws
pub mod WrongRules
pub mod Promises
