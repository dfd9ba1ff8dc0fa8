-- The laws of the check: known values by computing, and the table by its rule and by linearity.
pub mod Known
pub mod WrongChecks
mod XorLaws
pub mod ShiftLaws
pub mod Table
pub mod Promises
