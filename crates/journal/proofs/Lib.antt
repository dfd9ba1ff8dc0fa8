-- The laws of the journal crate: addresses taken one after the other; a slot, the slots from state to state, and where they end; then recovery, the
-- writer and the record, exit by exit.
pub mod ReplayLaws
mod AmongLaws
mod FollowLaws
mod ReadLaws
mod SlotLaws
mod CountLaws
mod StepLaws
pub mod RunLaws
pub mod EndLaws
pub mod RecoverLaws
mod JudgeLaws
mod WriteLaws
mod CountingLaws
pub mod Promises
