-- What is found so far and what the other cell's regions ahead give is what all of them give.
use Rattle.std.proofs.Common.{◌≡◌, ◌++◌, drop}
use Rattle.jh_check.specs.Private.Sites.{spot_of}
use Rattle.jh_check.specs.Lists.{found_from, capped}
use Rattle.jh_check.specs.Findings.{beside_at, beside}
use Rattle.jh_check.proofs.search.beside.Given as goal

abbrev pub invariant-loop-s : goal.invariant-loop-s
invariant-loop-s l =
    capped (l.found ++ found_from (beside_at l.rule (spot_of l.one) l.b l.other) l.s (drop l.s l.other.memory_regions)) ≡ capped (l.initial.found ++ beside l.rule (spot_of l.one) l.b l.other)
