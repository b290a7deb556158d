-- A region ahead breaks the rule with the one exactly if any of the other cell does.
use Rattle.std.proofs.Common.{◌≡◌, drop}
use Rattle.jh_check.specs.Private.Sites.{spot_of}
use Rattle.jh_check.specs.Lists.{found_from, is_any}
use Rattle.jh_check.specs.Findings.{beside_at, beside}
use Rattle.jh_check.proofs.verdict.any_beside.Given as goal

abbrev pub invariant-loop-s : goal.invariant-loop-s
invariant-loop-s l = is_any (found_from (beside_at l.rule (spot_of l.one) l.b l.other) l.s (drop l.s l.other.memory_regions)) ≡ is_any (beside l.rule (spot_of l.one) l.b l.other)
