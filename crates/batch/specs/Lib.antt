-- Next hops as plain numbers, one and many, in definitions and statements alone.
pub mod Exported
pub mod Batch
pub mod Exactly
