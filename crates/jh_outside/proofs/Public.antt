-- The lemmas that this crate hands up: what a proof of another crate may cite, and all that it can.
pub use Rattle.jh_outside.proofs.TrailLemmas.{all_both, asks_alone, loop_more, up_to_behind, up_to_last}
