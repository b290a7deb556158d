-- The lemmas that this crate hands up: what a proof of another crate may cite, and all that it can.
pub use Rattle.jh_cache.proofs.ListLemmas.{all_mapped, find_last, find_more, one_mapped}
