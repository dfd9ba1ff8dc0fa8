-- The laws of the node crate.
pub mod ChildLaws
pub mod Children
pub mod RefusalLaws
pub mod GivenChildren
pub mod Settings
pub mod Opened
pub mod WrongRules
pub mod Promises
