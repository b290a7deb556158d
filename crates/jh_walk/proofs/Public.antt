-- The lemmas that this crate hands up: what a proof of another crate may cite, and all that it can.
pub use Rattle.jh_walk.proofs.GrowLemmas.{grown_walk, index_small}
pub use Rattle.jh_walk.proofs.LiftLemmas.{aligned_below, count_moves, count_none, count_same, next_same, on_times, self_times, slot_times_is, slot_times_le, times_below}
pub use Rattle.jh_walk.proofs.SameLemmas.{counts_same, same_below, same_here, walk_same}
