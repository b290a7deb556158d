-- The lemmas that this crate hands up: what a proof of another crate may cite, and all that it can.
pub use Rattle.jh_life.proofs.SoundLemmas.{number_of}
