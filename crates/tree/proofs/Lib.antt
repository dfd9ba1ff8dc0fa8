-- Demand 3's proof, in two halves: every grown tree is sound, and in every sound tree packets go by the path. Beside it, the wrong rules that
-- the claim refutes.
pub mod Sound
pub mod Trees
pub mod Growth
pub mod Given
pub mod Runs
pub mod Paths
pub mod Walks
pub mod Ways
pub mod Forwarding
pub mod Theorem
pub mod Lifting
pub mod Opened
pub mod WrongChildren
pub mod WrongSettings
pub mod WrongHops
pub mod WrongEmpties
