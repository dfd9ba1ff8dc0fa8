-- The laws of the refusals.
pub mod Numbers
pub mod Outcomes
