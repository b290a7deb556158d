-- A region ahead overlaps with the other cell exactly if any of the one cell does.
use Rattle.std.proofs.Common.{◌≡◌, drop}
use Rattle.jh_check.specs.declared.rule.Rule.TheVariants.{CellsOverlap}
use Rattle.jh_check.specs.Lists.{found_from, is_any}
use Rattle.jh_check.specs.Findings.{between_at, between}
use Rattle.jh_check.proofs.verdict.any_indexed.Given as goal

abbrev pub invariant-loop-r : goal.invariant-loop-r
invariant-loop-r l = is_any (found_from (between_at CellsOverlap l.a l.one l.b l.other) l.r (drop l.r l.one.memory_regions)) ≡ is_any (between CellsOverlap l.a l.one l.b l.other)
