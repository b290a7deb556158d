-- A region ahead has a finding exactly if any of the one cell has.
use Rattle.std.proofs.Common.{◌≡◌, drop}
use Rattle.jh_check.specs.Lists.{found_from, is_any}
use Rattle.jh_check.specs.Findings.{between_at, between}
use Rattle.jh_check.proofs.verdict.any_between.Given as goal

abbrev pub invariant-loop-r : goal.invariant-loop-r
invariant-loop-r l = is_any (found_from (between_at l.rule l.a l.one l.b l.other) l.r (drop l.r l.one.memory_regions)) ≡ is_any (between l.rule l.a l.one l.b l.other)
