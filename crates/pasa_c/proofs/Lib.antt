-- What the archive's exports promise, and that they ask nothing of their callers.
pub mod Promises
pub mod AddressPromises
pub mod JournalPromises
pub mod FieldPromises
-- the statements about the archive as a whole
pub mod Archive
-- and each line of them, from the theorem that carries it
pub mod Lines
