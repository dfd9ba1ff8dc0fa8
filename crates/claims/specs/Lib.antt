-- The front page: what is claimed of the functions, each claim a line with its quantifiers written out, at the definitions that the functions promise
-- to equal. proofs/ takes each line from the record that carries it. Read in this order:
-- what an address is, and a node and its children
pub mod Addresses
-- the next hop: rules 1 to 4
pub mod NextHop
-- demand 1: refusals, given exactly when the document says, and nothing beside them
pub mod Demand1
-- demand 2: what is written reads back, and what is accepted is what would have been written
pub mod Demand2
-- demand 3: every list of requests and settings, every packet
pub mod Demand3
-- the path between two addresses, and the path program's line and text
pub mod Paths
-- request One: a hall's plan, its text and its tree
pub mod Plans
-- request Four: a journal, what it recovers to, and the power cut
pub mod Journals
-- the known values, and the wrong rules that are excluded
pub mod Excluded
-- what the code promises is what the claims speak of, and no function asks anything
pub mod Code
-- the answers' cases and the exported structs, number by number
pub mod Structs
-- and what turns an answer into such a struct
pub mod Conversions
-- and what the functions promise that the archive exports
pub mod Exports
-- and what the code of request Four promises
pub mod JournalCode
-- request Five: limits per node, their settings, and what its code promises
pub mod Limits
-- request Six: halls of 4,096 nodes and texts of 32,768 bytes, one more, and no other numbers in the place of those that moved
pub mod Larger
-- request Seven: the older fields of NSA, both ways
pub mod Nsa
-- request Eight: no empty packets
pub mod Empty
