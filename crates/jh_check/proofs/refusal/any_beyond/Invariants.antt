-- No CPU so far is named that mustn't be.
use Rattle.std.proofs.Common.{◌≡◌, false}
use Rattle.jh_num.specs.Bits.{has_bit}
use Rattle.jh_num.specs.Below.{any_below}
use Rattle.jh_check.specs.Refusals.{is_beyond}
use Rattle.jh_check.proofs.refusal.any_beyond.Given as goal

abbrev pub invariant-loop-cpu : goal.invariant-loop-cpu
invariant-loop-cpu l = any_below (is_beyond (has_bit l.may) l.cell.cpu_set) l.cpu ≡ false
