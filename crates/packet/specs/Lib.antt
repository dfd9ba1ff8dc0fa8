-- What the packet crate promises, in definitions and statements alone.
pub mod Packet
pub mod Refusals
pub mod WrongRules
