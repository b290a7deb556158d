-- How many pages a cell's tables take.
use Rattle.std.specs.Prelude.{ℕ, ◌+◌, ◌*◌, ◌-◌, ◌/◌, Bool, true, false, zero, suc, List, [], map, sum_by, if◌then◌else◌}
use Rattle.jh_cellcfg.specs.declared.config.CellConfig.{CellConfig}
use Rattle.jh_cellcfg.specs.declared.live.Live.{Live}
use Rattle.jh_cellcfg.specs.declared.region.Region.{Region}
use Rattle.jh_num.specs.declared.address.TheConstants.{ADDRESS_END}
use Rattle.jh_num.specs.declared.level.TheConstants.{FIRST_LEVEL, LAST_LEVEL}
use Rattle.jh_shape.specs.Claims.{Claims, holder_of}
use Rattle.jh_shape.specs.Shapes.{holder_of_live, is_table}
use Rattle.jh_num.specs.Levels.{slot_size}

-- how many of the numbers below `n` pass the test
unfoldable pub count_below : (ℕ → Bool) → ℕ → ℕ
count_below test zero = 0
count_below test (suc n) = count_below test n + (if test n then 1 else 0)

-- how many slots of the level are tables, among those below the end of addresses
unfoldable pub tables_at : Claims → ℕ → ℕ
tables_at claims level = count_below (λ slot. is_table claims level (slot * slot_size level)) (ADDRESS_END / slot_size level)

-- how many slots of so many levels, from `level` on, are tables
abbrev pub tables_from : Claims → ℕ → ℕ → ℕ
tables_from claims level zero = 0
tables_from claims level (suc more) = tables_at claims level + tables_from claims (level + 1) more

-- how many tables a cell takes: the first one, and one for each slot of shape table at the levels above the last
unfoldable pub tables_of : Claims → ℕ
tables_of claims = 1 + tables_from claims FIRST_LEVEL (LAST_LEVEL - FIRST_LEVEL)

-- what root's tables are made from: they depend on all cells; root has no communication page, so that is left 0
abbrev pub root_claims : List Region → List CellConfig → Claims
root_claims regions cells = record { regions = regions; root = true; holders = map holder_of cells; comm = 0 }

-- what root's tables are made from beside these live cells, each with its mark
abbrev pub live_root_claims : List Region → List Live → Claims
live_root_claims regions lives = record { regions = regions; root = true; holders = map holder_of_live lives; comm = 0 }

-- what the tables of a cell besides root are counted from: they depend on no other cell, and where its communication
-- page lies is left 0
abbrev pub cell_claims : CellConfig → Claims
cell_claims cell = record { regions = cell.memory_regions; root = false; holders = []; comm = 0 }

-- how many pages a cell besides root takes: its tables, and its communication page
abbrev pub own_pages : CellConfig → ℕ
own_pages cell = tables_of (cell_claims cell) + 1

-- how many pages root and these cells take together: all their tables, and a communication page for each of these cells
abbrev pub pages_of : List Region → List CellConfig → ℕ
pages_of regions cells = tables_of (root_claims regions cells) + sum_by own_pages cells
