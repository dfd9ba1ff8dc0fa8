-- What the search crate promises, in definitions and statements alone.
pub mod Search
pub mod Exactly
