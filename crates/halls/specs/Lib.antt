-- A hall that is read is a tree of demand 3: the requests of a plan, what is claimed of them and of the reading, an example, and the largest hall.
-- Statements alone.
pub mod Requests
pub mod Halls
pub mod HallsRead
pub mod Example
pub mod Largest
