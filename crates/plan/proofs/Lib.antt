-- The laws of the plan crate: a plan's answers, the reading by the grammar, and then the functions inside the code.
mod Missing
pub mod Inner
pub mod Answers
pub mod TooLong
mod MoveLaws
pub mod Spelling
mod Completing
mod Wholly
mod Stopping
pub mod Exact
pub mod RefusalLaws
pub mod OneRule
pub mod WrongRules
mod Openings
mod Places
mod Parts
mod ItemLaws
mod HallLaws
mod PlanLaws
pub mod Largest
pub mod Promises
