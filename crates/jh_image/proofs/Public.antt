-- The lemmas that this crate hands up: what a proof of another crate may cite, and all that it can.
pub use Rattle.jh_image.proofs.OneLemmas.{hands_one}
unfoldable pub use Rattle.jh_image.proofs.OneLemmas.{OneSpelling}
unfoldable pub use Rattle.jh_image.proofs.NextLemmas.{SpellingsAreFaultless}
