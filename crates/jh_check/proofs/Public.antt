-- The lemmas that this crate hands up: what a proof of another crate may cite, and all that it can.
pub use Rattle.jh_check.proofs.JoinLemmas.{clean_from_nothing, fewer_clean, joins_clean, nothing_from_clean}
pub use Rattle.jh_check.proofs.RuleLemmas.{broken_from_listed, listed_from_broken}
pub use Rattle.jh_check.proofs.GivenLemmas.{item_at, may_join, numbers_differ, sound_root_holds, sound_set, whole_pages, zero_names}
pub use Rattle.jh_check.proofs.RefusalLemmas.{accepted_from, accepted_to, beyond_named, named_beyond}
pub use Rattle.jh_check.proofs.CappedLemmas.{capped_nil, capped_none}
pub use Rattle.jh_check.proofs.CleanLemmas.{any_at, any_of, common_phys, get_take, phys_common, same_item, take_get}
pub use Rattle.jh_check.proofs.DeviceLemmas.{all_at, get_drop, section_in}
