-- No byte so far is zero.
use Rattle.std.proofs.Common.{◌≡◌, ℕ, ◌<◌, false, get_or, eqb}
use Rattle.jh_cellcfg.proofs.config.name_len.Given as goal

abbrev pub invariant-loop-i : goal.invariant-loop-i
invariant-loop-i l = (k : ℕ) → k < l.i → eqb (get_or l.name k 0) 0 ≡ false
