-- The laws of the nsa crate.
pub mod Writing
pub mod Layouts
pub mod Cases
pub mod InRow
pub mod BackAndForth
pub mod WriteRefusals
pub mod Demand2
pub mod Forms
pub mod Shortest
pub mod ReadRefusals
pub mod OneRule
pub mod WrongWriters
pub mod WrongReaders
pub mod Promises
