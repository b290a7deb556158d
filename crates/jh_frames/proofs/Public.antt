-- The lemmas that this crate hands up: what a proof of another crate may cite, and all that it can.
pub use Rattle.jh_frames.proofs.MemoryLemmas.{byte_guest, byte_own}
