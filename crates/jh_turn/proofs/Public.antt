-- The lemmas that this crate hands up: what a proof of another crate may cite, and all that it can.
pub use Rattle.jh_turn.proofs.PortSets.{all_still, same_set_at}
