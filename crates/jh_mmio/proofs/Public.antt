-- The lemmas that this crate hands up: what a proof of another crate may cite, and all that it can.
pub use Rattle.jh_mmio.proofs.IndexLemmas.{leb_at}
pub use Rattle.jh_mmio.proofs.AccessLemmas.{lies_from, lies_parts, lies_test}
