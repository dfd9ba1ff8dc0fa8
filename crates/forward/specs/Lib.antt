-- What the forward crate promises, in definitions and statements alone.
pub mod Forward
pub mod Refusals
pub mod BySteps
pub mod WrongRules
