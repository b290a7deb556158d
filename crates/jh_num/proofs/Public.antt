-- The lemmas that this crate hands up: what a proof of another crate may cite, and all that it can.
pub use Rattle.jh_num.proofs.BytesLemmas.{above_range, absent_below, ends_before, not_empty_at, within_range}
pub use Rattle.jh_num.proofs.MemoryLemmas.{byte_fits, little_endian_first, stored_before, stored_behind, stored_there, word_fits, zero_fits}
pub use Rattle.jh_num.proofs.RowLemmas.{range_read, read_over}
pub use Rattle.jh_num.proofs.StoredLemmas.{stored_in, stored_more}
pub use Rattle.jh_num.proofs.BelowLemmas.{below_at, below_more, below_none, below_of, others_none, sum_falls, sum_le, sum_moves, sum_same, term_le}
pub use Rattle.jh_num.proofs.Booleans.{count_few, or_assoc, same_number, same_test, within_both}
pub use Rattle.jh_num.proofs.Lists.{Contains_cases, Contains_filter, Contains_from_map, Contains_head, Contains_map, Contains_tail, IsFound, IsFound_from_filter, IsFound_from_find, IsFound_from_list_any, find_None, find_kept, find_map, find_nothing, find_some, find_unique, filter_all, get_or_same, list_all_each, list_any_agree, list_any_false, list_any_from_Contains, list_any_map, list_any_nothing, map_remove, position_here, position_nowhere, read_again}
pub use Rattle.jh_num.proofs.Results.{ok_err, ok_one, passed_up}
