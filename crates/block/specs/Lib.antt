-- What the block crate promises, in definitions and statements alone.
pub mod Block
pub mod Blocks
