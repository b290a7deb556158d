-- The sections left follow the end reached exactly where all follow the first one.
use Rattle.std.proofs.Common.{◌≡◌, drop}
use Rattle.jh_check.specs.Devices.{follows}
use Rattle.jh_check.proofs.devices.follows.Given as goal

abbrev pub invariant-loop-section : goal.invariant-loop-section
invariant-loop-section l = follows l.end (drop l.section-index l.sections) ≡ follows l.initial.end l.sections
