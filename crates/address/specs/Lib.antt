-- What the address crate promises, in definitions and statements alone.
pub mod Order
pub mod Bits
pub mod Steps
pub mod Address
pub mod Numbers
pub mod Cuts
pub mod Ancestors
pub mod Depths
pub mod Kinds
pub mod Refusals
