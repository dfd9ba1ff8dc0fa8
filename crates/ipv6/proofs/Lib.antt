-- The laws of the ipv6 crate.
pub mod FormLaws
pub mod RefusalLaws
pub mod Demand2
pub mod WrongWriters
pub mod WrongReaders
pub mod Promises
