-- The proof that a hall that is read is a tree of demand 3: a plan's requests run through the tree as its items are answered, and what is given
-- is its hall.
mod Asking
mod Running
mod NoneRefused
mod TooLong
mod LetterLaws
pub mod Planned
mod Reading
pub mod Theorem
pub mod ExampleLaws
pub mod Largest
