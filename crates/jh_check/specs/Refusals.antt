-- What a new cell is refused for, once its configuration was read: the first of these that holds.
use Rattle.std.specs.Prelude.{◌≡◌, ◌≤◌, ℕ, ℤ, ◌*◌, Bool, true, false, ◌&&◌, ◌||◌, not, ◌==◌, nat_lt, nat_eq, List, ◌∷◌, length, Option, Some, None, if◌then◌else◌, zero, suc}
use Rattle.std.specs.List.{list_any}
use Rattle.std.specs.Cmp.Lexicographic.{pointwise}
use Rattle.jh_num.specs.Below.{any_below}
use Rattle.jh_num.specs.declared.error.TheConstants.{EBUSY, EEXIST, EINVAL, ENOMEM}
use Rattle.jh_cellcfg.specs.declared.config.CellConfig.{CellConfig}
use Rattle.jh_cellcfg.specs.declared.config.SystemConfig.{SystemConfig}
use Rattle.jh_cellcfg.specs.Cells.{name_of, is_cpu_set}
use Rattle.jh_check.specs.declared.verdict.NewCell.{NewCell}
use Rattle.jh_check.specs.declared.verdict.NewCell.TheVariants.{Clean, Invalid, Busy}
use Rattle.jh_check.specs.Verdicts.{verdict_of}

-- the cell has the new one's id or its name
abbrev pub is_namesake : CellConfig → CellConfig → Bool
is_namesake new cell = (cell.id == new.id) || pointwise nat_eq (name_of cell) (name_of new)

-- the two cells have neither one name nor one id
abbrev pub AreTwo : CellConfig → CellConfig → Type 0
AreTwo earlier later = is_namesake later earlier ≡ false

-- one of the cells has the new one's id or its name
abbrev pub is_known : List CellConfig → CellConfig → Bool
is_known cells new = list_any (is_namesake new) cells

-- the set names the CPU, which may not be given away
abbrev pub is_beyond : (ℕ → Bool) → List ℕ → ℕ → Bool
is_beyond may set cpu = is_cpu_set set cpu && not (may cpu)

-- the set names a CPU that may not be given away; those past the set's end aren't named
unfoldable pub names_beyond : (ℕ → Bool) → List ℕ → Bool
names_beyond may set = any_below (is_beyond may set) (8 * length set)

-- no CPU may be given away
abbrev pub nobody : ℕ → Bool
nobody cpu = false

-- the number that the check's verdict refuses the new cell with, or else what other causes say
abbrev pub by_check : NewCell → Option ℤ → Option ℤ
by_check Invalid rest = Some EINVAL
by_check Busy rest = Some EBUSY
by_check Clean rest = rest

-- What the new cell is refused for, the first that holds: a cell that lives, root too, has its name or its id; it names
-- a CPU that the caller may not give away; the check finds something that names it; the pages of all cells with it are
-- more than there are.
unfoldable pub refusal_of : SystemConfig → List CellConfig → CellConfig → (ℕ → Bool) → ℕ → ℕ → Option ℤ
refusal_of system live new may pages pool =
    if is_known (system.root ∷ live) new then Some EEXIST
    else (if names_beyond may new.cpu_set then Some EBUSY
    else by_check (verdict_of system live new) (if nat_lt pool pages then Some ENOMEM else None))

-- the new cell is accepted: no namesake lives, the caller may give away each CPU that is named, the check finds nothing
-- that names the new cell, and the pages suffice
pub record IsAccepted (system : SystemConfig) (live : List CellConfig) (new : CellConfig) (may : ℕ → Bool) (pages pool : ℕ) : Type 0 where
  pub unknown : is_known (system.root ∷ live) new ≡ false
  pub cpus : (cpu : ℕ) → is_cpu_set new.cpu_set cpu ≡ true → may cpu ≡ true
  pub clean : verdict_of system live new ≡ Clean
  pub room : pages ≤ pool
