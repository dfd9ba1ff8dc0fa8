-- What the line crate promises, in definitions and statements alone.
pub mod Line
pub mod Exactly
pub mod Refusals
pub mod Decimal
pub mod Edge
