-- None of the CPUs so far.
use Rattle.std.proofs.Common.{◌≡◌, false}
use Rattle.jh_num.specs.Below.{any_below}
use Rattle.jh_script.specs.declared.image.Image.{Image}
use Rattle.jh_history.specs.Facts.{Facts}
use Rattle.jh_history.specs.Phases.{keeps_decide}
use Rattle.jh_history.proofs.phases.any_keeps_decide.Given as goal

abbrev pub invariant-loop-cpu : goal.invariant-loop-cpu
invariant-loop-cpu g l = (i : Image) (f : Facts) → g.K.Known.Knows l.known i f → any_below (λ k. keeps_decide i l.caller k (f.cpu k)) l.cpu ≡ false
