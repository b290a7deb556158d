-- Up to the cap, what is found and what the cells from this one on give is what all cells give.
use Rattle.std.proofs.Common.{◌≡◌, ◌++◌, drop}
use Rattle.jh_check.specs.Private.Cells.{cells_of}
use Rattle.jh_check.specs.Lists.{found_from, capped}
use Rattle.jh_check.specs.Findings.{from_cell, in_pairs}
use Rattle.jh_check.proofs.pairing.by_envelopes.Given as goal

abbrev pub invariant-loop-a : goal.invariant-loop-a
invariant-loop-a l =
    capped (l.found ++ found_from (from_cell l.rule (cells_of l.setup)) l.a (drop l.a (cells_of l.setup))) ≡ capped (l.initial.found ++ in_pairs l.rule (cells_of l.setup))
