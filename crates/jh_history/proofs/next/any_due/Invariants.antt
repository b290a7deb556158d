-- Nothing is due to the CPUs so far.
use Rattle.std.proofs.Common.{◌≡◌, ℕ, ◌+◌, ◌%◌, ◌<◌, None}
use Rattle.jh_script.specs.declared.image.Image.{Image}
use Rattle.jh_history.specs.Facts.{Facts}
use Rattle.jh_history.specs.Due.{due_at}
use Rattle.jh_history.proofs.next.any_due.Given as goal

abbrev pub invariant-loop-k : goal.invariant-loop-k
invariant-loop-k g l = (i : Image) (f : Facts) → g.K.Known.Knows l.known i f → (j : ℕ) → j < l.k → due_at i f ((l.first + j) % 16) ≡ None
