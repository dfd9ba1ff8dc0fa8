-- The laws of numbers as octets.
pub mod OctetLaws
pub mod SameLaws
pub mod Correspondence
pub mod LentLaws
pub mod Promises
