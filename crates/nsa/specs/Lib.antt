-- What the nsa crate promises, in definitions and statements alone.
pub mod Fields
pub mod Layout
pub mod Forms
pub mod RoundTrip
pub mod Shortest
pub mod Refusals
pub mod WrongWriters
pub mod WrongReaders
