-- What the node crate promises, in definitions and statements alone.
pub mod Node
pub mod Refusals
pub mod Children
pub mod Settings
pub mod WrongRules
