-- A cell ahead has a place in common with the new one exactly if any cell has.
use Rattle.std.proofs.Common.{◌≡◌, ◌++◌, [], ◌∷◌, drop}
use Rattle.std.specs.List.{list_any}
use Rattle.jh_check.specs.declared.rule.Rule.TheVariants.{CellsOverlap}
use Rattle.jh_check.specs.Private.Cells.{cells_of}
use Rattle.jh_check.specs.Lists.{found_from}
use Rattle.jh_check.specs.Findings.{from_cell, in_pairs}
use Rattle.jh_check.specs.Verdicts.{makes_busy}
use Rattle.jh_check.proofs.verdict.overlaps.Given as goal

abbrev pub invariant-loop-a : goal.invariant-loop-a
invariant-loop-a l =
    list_any (makes_busy l.number) (found_from (from_cell CellsOverlap (cells_of l.setup ++ l.new ∷ [])) l.a (drop l.a (cells_of l.setup ++ l.new ∷ [])))
    ≡ list_any (makes_busy l.number) (in_pairs CellsOverlap (cells_of l.setup ++ l.new ∷ []))
