-- The laws of the pasa crate.
pub mod Promises
pub mod AddressPromises
pub mod JournalPromises
pub mod FieldPromises
