-- What a cell that fits shares with no earlier one.
use Rattle.std.proofs.Common.{◌≡◌, ℕ, true, false, ◌&&◌, not, nat_lt, List, [], ◌∷◌, sym, ap, subst, ◌∙◌, inl, inr}
use Rattle.std.specs.List.{Contains, list_any}
use Rattle.std.proofs.lemmas.Bool.{both_ways, and_parts, and_from, not-true, cases_Bool, not_from_false}
use Rattle.jh_num.specs.Below.{any_below}
use Rattle.jh_num.proofs.Public.{Contains_cases, list_any_false}
use Rattle.jh_cellcfg.specs.declared.config.CellConfig.{CellConfig}
use Rattle.jh_cellcfg.specs.declared.region.Region.{Region}
use Rattle.jh_cellcfg.specs.Cells.{is_cpu_set}
use Rattle.jh_cellcfg.specs.Regions.{is_comm, phys_meet}
use Rattle.jh_plan.specs.declared.demand.Demand.{Demand}
use Rattle.jh_plan.specs.Cpus.{cpus_above, is_greatest, is_spare}
use Rattle.jh_plan.specs.Fits.{comm_region, memory_region, Fits}
use Rattle.jh_plan.specs.Places.{bytes_at, has_met, is_met}

-- each CPU of the cell is spare
cpu_spare : (root : CellConfig) (earlier : List CellConfig) (demand : Demand) (cell : CellConfig) → Fits root earlier demand cell → (cpu : ℕ) → is_cpu_set cell.cpu_set cpu ≡ true → is_spare root earlier cpu ≡ true
cpu_spare root earlier demand cell fits cpu has =
    let spare = is_spare root earlier in
    let same : is_cpu_set cell.cpu_set cpu ≡ is_cpu_set fits.set cpu = ap (λ (c : CellConfig). is_cpu_set c.cpu_set cpu) fits.is in
    let greatest : is_greatest spare demand.cpus cpu ≡ true = sym (fits.cpus.names cpu) ∙ sym same ∙ has in
    let p = and_parts (nat_lt cpu 16 && spare cpu) (nat_lt (cpus_above spare cpu) demand.cpus) greatest in
    (and_parts (nat_lt cpu 16) (spare cpu) p.0).1

-- of the tests of a spare CPU
record IsSpare (root : CellConfig) (earlier : List CellConfig) (cpu : ℕ) : Type 0 where
  roots : is_cpu_set root.cpu_set cpu ≡ true
  above : any_below (is_cpu_set root.cpu_set) cpu ≡ true
  free : list_any (λ (cell : CellConfig). is_cpu_set cell.cpu_set cpu) earlier ≡ false

spare_parts : (root : CellConfig) (earlier : List CellConfig) (cpu : ℕ) → is_spare root earlier cpu ≡ true → IsSpare root earlier cpu
spare_parts root earlier cpu e =
    let mine = is_cpu_set root.cpu_set cpu in
    let above = any_below (is_cpu_set root.cpu_set) cpu in
    let taken = list_any (λ (cell : CellConfig). is_cpu_set cell.cpu_set cpu) earlier in
    let p = and_parts (mine && above) (not taken) e in
    let q = and_parts mine above p.0 in
    record { roots = q.0; above = q.1; free = not-true taken p.1 }

pub of_root : (root : CellConfig) (earlier : List CellConfig) (demand : Demand) (cell : CellConfig) → Fits root earlier demand cell → (cpu : ℕ) → is_cpu_set cell.cpu_set cpu ≡ true → is_cpu_set root.cpu_set cpu ≡ true
of_root root earlier demand cell fits cpu has = (spare_parts root earlier cpu (cpu_spare root earlier demand cell fits cpu has)).roots

pub above_lowest : (root : CellConfig) (earlier : List CellConfig) (demand : Demand) (cell : CellConfig) → Fits root earlier demand cell → (cpu : ℕ) → is_cpu_set cell.cpu_set cpu ≡ true → any_below (is_cpu_set root.cpu_set) cpu ≡ true
above_lowest root earlier demand cell fits cpu has = (spare_parts root earlier cpu (cpu_spare root earlier demand cell fits cpu has)).above

pub cpu_alone : (root : CellConfig) (earlier : List CellConfig) (demand : Demand) (cell : CellConfig) → Fits root earlier demand cell → (other : CellConfig) → Contains earlier other → (cpu : ℕ) → is_cpu_set cell.cpu_set cpu ≡ true → is_cpu_set other.cpu_set cpu ≡ false
cpu_alone root earlier demand cell fits other among cpu has =
    list_any_false (λ (c : CellConfig). is_cpu_set c.cpu_set cpu) earlier other (spare_parts root earlier cpu (cpu_spare root earlier demand cell fits cpu has)).free among

-- the memory of the cell meets none of another's
memory_alone : (root : CellConfig) (earlier : List CellConfig) (demand : Demand) (cell : CellConfig) (fits : Fits root earlier demand cell) (other : CellConfig) → Contains earlier other → (y : Region) → Contains other.memory_regions y → is_comm y ≡ false → phys_meet y (memory_region demand fits.place) ≡ false
memory_alone root earlier demand cell fits other among y has memory =
    let bytes = bytes_at fits.place demand.size in
    let clear : has_met bytes other ≡ false = list_any_false (has_met bytes) earlier other fits.highest.free.free.free among in
    let unmet : is_met bytes y ≡ false = list_any_false (is_met bytes) other.memory_regions y clear has in
    elim (cases_Bool (phys_meet y bytes)) [
      | inl met ↦ absurd (both_ways (is_met bytes y) unmet (and_from (not (is_comm y)) (phys_meet y bytes) (not_from_false (is_comm y) memory) met))
      | inr no_meeting ↦ no_meeting
    ]

pub place_alone : (root : CellConfig) (earlier : List CellConfig) (demand : Demand) (cell : CellConfig) → Fits root earlier demand cell → (other : CellConfig) → Contains earlier other → (x y : Region) → Contains cell.memory_regions x → is_comm x ≡ false → Contains other.memory_regions y → is_comm y ≡ false → phys_meet y x ≡ false
place_alone root earlier demand cell fits other among x y in_cell plain in_other memory =
    let Among : CellConfig → Type 0 = λ c. Contains c.memory_regions x in
    let listed : Contains (memory_region demand fits.place ∷ comm_region demand ∷ []) x = subst Among fits.is in_cell in
    elim (Contains_cases (memory_region demand fits.place) (comm_region demand ∷ []) x listed) [
      | inl is ↦ ap (λ (r : Region). phys_meet y r) (sym is) ∙ memory_alone root earlier demand cell fits other among y in_other memory
      | inr later ↦ elim (Contains_cases (comm_region demand) [] x later) [
        | inl is ↦ absurd (both_ways (is_comm x) plain (ap is_comm (sym is)))
        | inr none ↦ absurd (nothing_in x none)
      ]
    ]
  where
    nothing_in : (x : Region) → Contains [] x → ⊥
    nothing_in x (k, below, is) = elim below [ ]
