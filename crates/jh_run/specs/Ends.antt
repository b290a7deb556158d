-- How a schedule or a run ends.
use Rattle.std.specs.Prelude.{◌≡◌, ℕ, Bool, true, false, List, length}
use Rattle.jh_script.specs.declared.image.Image.{Image}
use Rattle.jh_history.specs.declared.form.Form.{Form}
use Rattle.jh_history.specs.declared.entry.Entry.{Entry}
use Rattle.jh_history.specs.Due.{IsQuiet}
use Rattle.jh_run.specs.declared.ended.Ended.{Ended}
use Rattle.jh_run.specs.declared.ended.Ended.TheVariants.{Unstopped, Full}

-- the limit stopped the schedule or the run that ended so
abbrev pub is_full : Ended → Bool
is_full Unstopped = false
is_full Full = true

-- the journal is at its limit and not quiet. It names no CPU that has an entry due, while `IsFullAtCpu` does: a type's
-- invariant, which rests on this, can't choose one
abbrev pub IsFullAndBusy : Image → Form → ℕ → List Entry → Type 0
IsFullAndBusy image form limit entries = (length entries ≡ limit) × ¬ IsQuiet image form entries
