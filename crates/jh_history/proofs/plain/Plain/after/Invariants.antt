-- What holds after the entries so far.
use Rattle.std.proofs.Common.{take}
use Rattle.jh_history.specs.History.{facts}
use Rattle.jh_history.specs.Sound.{IsSound}
use Rattle.jh_history.specs.Private.PlainView.{Represents}
use Rattle.jh_history.proofs.plain.Plain.after.Given as goal

abbrev pub invariant-loop-entry : goal.invariant-loop-entry
invariant-loop-entry l = record {
  stands : Represents l.plain l.image (facts l.image l.fn.form (take l.entry-index l.entries));
  sound : IsSound l.image (facts l.image l.fn.form (take l.entry-index l.entries));
}
