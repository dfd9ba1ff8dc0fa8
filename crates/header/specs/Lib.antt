-- What the header crate promises, in definitions and statements alone.
pub mod Header
pub mod Fewest
pub mod Refusals
pub mod RoundTrip
pub mod WrongWriters
pub mod WrongReaders
