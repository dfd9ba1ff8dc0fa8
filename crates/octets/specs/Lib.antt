-- What the octets crate promises, in definitions and statements alone.
pub mod Octets
pub mod Correspondence
pub mod Lent
