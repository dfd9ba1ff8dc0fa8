-- Demand 3: the tree, the ways of packets through it, and the claim; and the wrong rules that the claim must exclude. Statements alone.
pub mod Tree
pub mod Way
pub mod Demand3
pub mod WrongChildren
pub mod WrongSettings
pub mod WrongHops
