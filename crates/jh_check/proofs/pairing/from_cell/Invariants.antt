-- Up to the cap, what is found and what the cells from here on add is all that the one gives.
use Rattle.std.proofs.Common.{◌≡◌, ◌++◌, drop}
use Rattle.jh_check.specs.Private.Cells.{cells_of}
use Rattle.jh_check.specs.Lists.{found_from, capped}
use Rattle.jh_check.specs.Findings.{between, from_cell}
use Rattle.jh_check.proofs.pairing.from_cell.Given as goal

abbrev pub invariant-loop-b : goal.invariant-loop-b
invariant-loop-b l =
    capped (l.found ++ found_from (between l.rule l.a l.one) l.b (drop l.b (cells_of l.setup))) ≡ capped (l.initial.found ++ from_cell l.rule (cells_of l.setup) l.a l.one)
