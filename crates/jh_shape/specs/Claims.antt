-- What a cell's tables are made from.
use Rattle.std.specs.Prelude.{ℕ, ◌+◌, Bool, false, List, [], ◌∷◌, ◌++◌, Option, Some, None, if◌then◌else◌}
use Rattle.std.specs.Borrow.{Bor}
use Rattle.jh_num.specs.Bits.{has_bit}
use Rattle.jh_cellcfg.specs.declared.config.CellConfig.{CellConfig}
use Rattle.jh_cellcfg.specs.declared.region.Region.{Region}
use Rattle.jh_shape.specs.declared.target.Target.{Target}

-- a live cell besides root, as root's tables depend on it: its regions, and whether it is loadable
pub record Holder : Type 0 where
  pub regions : List Region
  pub loadable : Bool

-- the regions of the cell, whether it is root, the other live cells besides root, and where the cell's
-- communication page lies
pub record Claims : Type 0 where
  pub regions : List Region
  pub root : Bool
  pub holders : List Holder
  pub comm : ℕ

-- the cells whose bit is set in `held`, counted from `index` on; those are loadable whose bit is set in
-- `loadable`
abbrev pub held_from : ℕ → ℕ → ℕ → List CellConfig → List Holder
held_from held loadable index [] = []
held_from held loadable index (cell ∷ cells) =
    if has_bit held index
    then record { regions = cell.memory_regions; loadable = has_bit loadable index } ∷ held_from held loadable (index + 1) cells
    else held_from held loadable (index + 1) cells

-- a live cell besides root that isn't loadable, as root's tables depend on it
abbrev pub holder_of : CellConfig → Holder
holder_of cell = record { regions = cell.memory_regions; loadable = false }

-- one cell more, if there is one, which isn't loadable
abbrev pub holder_to_come : Option (Bor CellConfig) → List Holder
holder_to_come None = []
holder_to_come (Some cell) = holder_of cell.now ∷ []

-- what the tables of the target are made from
abbrev pub claims_of : Target → Claims
claims_of target =
    record {
      regions = target.regions.now;
      root = target.root;
      holders = held_from target.held target.loadable 0 target.cells.now ++ holder_to_come target.extra;
      comm = target.comm;
    }
