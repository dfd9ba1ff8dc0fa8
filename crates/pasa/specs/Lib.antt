-- How the exported structs show the records and answers of the crates below, in definitions alone.
pub mod Children
pub mod Bytes
pub mod Fields
pub mod Paths
pub mod Plans
pub mod Journals
pub mod Addresses
