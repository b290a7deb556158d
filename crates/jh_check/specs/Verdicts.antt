-- What the check says of a new cell: by the findings of the system, the live cells and the new one that name the
-- new one.
use Rattle.std.specs.Prelude.{ℕ, ◌+◌, Bool, ◌&&◌, ◌||◌, not, ◌==◌, List, [], ◌∷◌, ◌++◌, length, if◌then◌else◌}
use Rattle.std.specs.List.{list_any}
use Rattle.jh_cellcfg.specs.declared.config.CellConfig.{CellConfig}
use Rattle.jh_cellcfg.specs.declared.config.SystemConfig.{SystemConfig}
use Rattle.jh_check.specs.declared.finding.Finding.{Finding}
use Rattle.jh_check.specs.declared.verdict.NewCell.{NewCell}
use Rattle.jh_check.specs.declared.verdict.NewCell.TheVariants.{Clean, Invalid, Busy}
use Rattle.jh_check.specs.Findings.{findings}

-- the finding names the cell of that number, which isn't root
abbrev pub names : ℕ → Finding → Bool
names cell finding = (finding.cell == cell) || (finding.other_cell == cell)

-- the finding is of the rule CellsOverlap: two cells besides root have a place in common that they may not share
abbrev pub is_cells_overlap : Finding → Bool
is_cells_overlap finding = finding.number == 10

-- the finding names the cell, and is of another rule than CellsOverlap
abbrev pub makes_invalid : ℕ → Finding → Bool
makes_invalid cell finding = names cell finding && not (is_cells_overlap finding)

-- the finding names the cell, and is of the rule CellsOverlap
abbrev pub makes_busy : ℕ → Finding → Bool
makes_busy cell finding = names cell finding && is_cells_overlap finding

-- the verdict by whether a finding makes the new cell invalid, and else whether one makes it busy
abbrev pub verdict_by : Bool → Bool → NewCell
verdict_by invalid busy = if invalid then Invalid else (if busy then Busy else Clean)

-- the verdict on a new cell, which comes last: by the findings that name it
unfoldable pub verdict_of : SystemConfig → List CellConfig → CellConfig → NewCell
verdict_of system live new =
    let all = findings system (live ++ new ∷ []) in
    verdict_by (list_any (makes_invalid (length live + 1)) all) (list_any (makes_busy (length live + 1)) all)
