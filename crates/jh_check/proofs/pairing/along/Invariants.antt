-- What is found so far and what the regions from this one on give is all of the cell, capped.
use Rattle.std.proofs.Common.{◌≡◌, ◌++◌, drop}
use Rattle.jh_check.specs.Lists.{found_from, capped}
use Rattle.jh_check.specs.Findings.{between_at, between}
use Rattle.jh_check.proofs.pairing.along.Given as goal

abbrev pub invariant-loop-r : goal.invariant-loop-r
invariant-loop-r l =
    capped (l.found ++ found_from (between_at l.rule l.a l.one l.a l.one) l.r (drop l.r l.one.memory_regions)) ≡ capped (l.initial.found ++ between l.rule l.a l.one l.a l.one)
