-- The laws of blocks: how the code writes and reads them, what is claimed of them, and what the crates above cite.
pub mod Zeros
pub mod Cases
mod Spread
mod Filling
mod HighFirst
mod Parts
mod Writing
mod Accepted
pub mod Laws
pub mod Theorem
pub mod Promises
