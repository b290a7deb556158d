-- The lemmas that this crate hands up: what a proof of another crate may cite, and all that it can.
pub use Rattle.jh_spec.proofs.ListPrefixes.{IsListPrefix, all_told, one_told, told_none}
