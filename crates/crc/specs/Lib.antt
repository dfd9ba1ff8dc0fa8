-- What the crc crate promises, in definitions and statements alone.
pub mod Crc
pub mod Checks
pub mod Known
pub mod WrongChecks
