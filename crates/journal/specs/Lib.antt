-- What the journal crate promises, in definitions and statements alone.
pub mod Limits
pub mod Replay
pub mod Record
pub mod Slots
pub mod Recovery
pub mod Follows
pub mod Writing
pub mod Reader
pub mod AnyFault
