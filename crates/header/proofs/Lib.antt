-- The laws of the header crate.
pub mod Opened
pub mod Size
pub mod Start
pub mod Parts
pub mod Cases
pub mod Payload
pub mod Writing
pub mod RefusalLaws
pub mod OneRule
pub mod Demand2
pub mod WrongWriters
pub mod WrongReaders
pub mod Promises
