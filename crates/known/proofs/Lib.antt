-- The claim of the table.
pub mod Proved
