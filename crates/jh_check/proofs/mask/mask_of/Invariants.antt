-- The bits so far tell the marks, and no bit from there on is set.
use Rattle.std.proofs.Common.{◌≡◌, ℕ, ◌<◌, ◌≤◌, false, slice_index_or}
use Rattle.jh_num.specs.Bits.{has_bit}
use Rattle.jh_check.proofs.mask.mask_of.Given as goal

abbrev pub invariant-loop-i : goal.invariant-loop-i
invariant-loop-i l = ((k : ℕ) → k < l.i → has_bit l.mask k ≡ slice_index_or l.marks k false) × ((k : ℕ) → l.i ≤ k → has_bit l.mask k ≡ false)
