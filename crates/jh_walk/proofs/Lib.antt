mod LiftLemmas
mod WalkLemmas
mod PathLemmas
mod SameLemmas
mod SlotLemmas
mod WholeLemmas
mod GrowLemmas
mod ReachLemmas
mod ListedLemmas
pub mod Public
