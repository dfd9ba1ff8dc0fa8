-- A journal that is replayed is a tree of demand 3, and the words that recovery leaves hold its records: what is claimed of them. Statements
-- alone.
pub mod Replays
pub mod Slots
pub mod Refusals
pub mod PowerCuts
pub mod Orders
pub mod RoundTrip
pub mod OneRule
pub mod WrongWriters
pub mod WrongRecoveries
pub mod Full
