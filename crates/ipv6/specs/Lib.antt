-- What the ipv6 crate promises, in definitions and statements alone.
pub mod Form
pub mod Refusals
pub mod RoundTrip
pub mod WrongWriters
pub mod WrongReaders
