-- The refusals and their numbers.
pub mod Refusal
pub mod Numbers
pub mod Outcome
