-- The scan bounds the regions so far, and those of them that meet lie in its stretch.
use Rattle.jh_check.specs.Private.Rising.{IsScanTo}
use Rattle.jh_check.proofs.rising.stretch_of.Given as goal

abbrev pub invariant-loop-item : goal.invariant-loop-item
invariant-loop-item l = IsScanTo l.rule l.regions l.item l.scan
