-- What the plan crate promises, in definitions and statements alone.
pub mod Limits
pub mod Grammar
pub mod Hall
pub mod Reading
pub mod Plan
pub mod Progress
pub mod Refusals
pub mod Exactly
pub mod WrongRules
pub mod Largest
