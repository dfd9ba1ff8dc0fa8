-- What the route crate promises, in definitions and statements alone.
pub mod Path
pub mod Counting
pub mod TurningPoint
pub mod Exactly
pub mod Refusals
