-- The laws of the packet crate.
pub mod PacketHops
pub mod RefusalLaws
pub mod OneRule
pub mod Before
pub mod WrongRules
pub mod Promises
