pub mod Public
mod RangeLemmas
mod WordLemmas
mod MemoryLemmas
mod HeldLemmas
mod LentLemmas
mod RoomLemmas
