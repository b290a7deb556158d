-- What of the two lists is merged stands at the end, and what is still to be read of the first stands where it did.
use Rattle.std.proofs.Common.{◌≡◌, ◌+◌, ◌-◌, length, take}
use Rattle.std.specs.Prelude.{vec_len, vec_capacity}
use Rattle.jh_num.proofs.MergeLemmas.{Merges}
use Rattle.jh_num.proofs.splice.merge.Given as goal

abbrev pub invariant-some_left : goal.invariant-some_left
invariant-some_left l = record {
  merges : Merges (take (vec_len l.fn.ranges - length l.fn.others) l.fn.ranges.items) l.others l.ranges.items l.i l.j l.at;
  unread : take l.i l.ranges.items ≡ take l.i (take (vec_len l.fn.ranges - length l.fn.others) l.fn.ranges.items);
  len : vec_len l.ranges ≡ vec_len l.fn.ranges;
  capacity : vec_capacity l.ranges ≡ vec_capacity l.fn.ranges;
}

abbrev pub decreases-some_left : goal.decreases-some_left
decreases-some_left l = l.i + l.j
