-- Each cell of a plan has what its demand wants: its name, its id, as many CPUs, and as many bytes of memory.
use Rattle.std.proofs.Common.{◌≡◌, ℕ, ◌+◌, ◌-◌, ◌≤◌, Bool, true, false, ◌&&◌, nat_lt, cond, Some, slice_get, List, [], ◌∷◌, ◌++◌, zero, suc, length, refl, ap, subst, ◌∙◌, inl, inr, arith}
use Rattle.std.specs.List.{All}
use Rattle.std.proofs.lemmas.Bool.{and_from, cases_Bool, cases_lt, lt-ltb, le-ltb}
use Rattle.std.proofs.lemmas.Option.{same_Some, slice_get_within, get_or_from_slice_get}
use Rattle.jh_cellcfg.specs.declared.config.CellConfig.{CellConfig}
use Rattle.jh_cellcfg.specs.declared.config.SystemConfig.{SystemConfig}
use Rattle.jh_cellcfg.specs.Cells.{is_cpu_set, name_of}
use Rattle.jh_shape.specs.Pages.{count_below}
use Rattle.jh_plan.specs.declared.demand.Demand.{Demand}
use Rattle.jh_plan.specs.declared.planning.Planned.{Planned}
use Rattle.jh_plan.specs.Cpus.{cpus_above, cpus_with, is_greatest, is_spare}
use Rattle.jh_plan.specs.Demands.{IsDemand}
use Rattle.jh_plan.specs.Fits.{memory_region, Fits}
use Rattle.jh_plan.specs.Plans.{ArePlanned, HasWanted, IsPlan}
use Rattle.jh_plan.proofs.CpuLemmas.{count_grows, count_nothing, not_passing}
use Rattle.jh_plan.proofs.WrittenLemmas.{name_before, name_parts}

-- ---- as many CPUs

one_below : (test : ℕ → Bool) (n : ℕ) (passes : Bool) → test n ≡ passes → count_below test (suc n) ≡ count_below test n + cond passes 1 0
unfolding count_below
one_below test n passes is = ap (λ b. count_below test n + cond b 1 0) is

-- of those below n the least ones are left out
greatest_below : (test : ℕ → Bool) (count n : ℕ) → n ≤ 16 → count ≤ cpus_with test → count_below (is_greatest test count) n ≡ count_below test n - (cpus_with test - count)
greatest_below test count zero within enough = omega (arith, count_nothing (is_greatest test count) 0 refl, count_nothing test 0 refl)
greatest_below test count (suc n) within enough =
    let before = greatest_below test count n (omega (arith, within)) enough in
    elim (cases_Bool (test n)) [
      | inl passes ↦
          let all : count_below test (suc n) ≡ count_below test n + 1 = one_below test n true passes in
          let next : n + 1 ≡ suc n = omega arith in
          let above : cpus_above test n ≡ cpus_with test - count_below test (suc n) = ap (λ k. cpus_with test - count_below test k) next in
          let first = and_from (nat_lt n 16) (test n) (lt-ltb n 16 (omega (arith, within))) passes in
          let is : is_greatest test count n ≡ nat_lt (cpus_above test n) count = ap (λ b. b && nat_lt (cpus_above test n) count) first in
          elim (cases_lt (cpus_above test n) count) [
            | inl few ↦
                let one : count_below (is_greatest test count) (suc n) ≡ count_below (is_greatest test count) n + 1 = one_below (is_greatest test count) n true (is ∙ lt-ltb (cpus_above test n) count few) in
                omega (arith, before, all, above, few, one, enough)
            | inr many ↦
                let none : count_below (is_greatest test count) (suc n) ≡ count_below (is_greatest test count) n + 0 = one_below (is_greatest test count) n false (is ∙ le-ltb (cpus_above test n) count many) in
                omega (arith, before, all, above, many, none, enough, count_grows test (suc n) 16 within)
          ]
      | inr fails ↦
          let all : count_below test (suc n) ≡ count_below test n + 0 = one_below test n false fails in
          let none : count_below (is_greatest test count) (suc n) ≡ count_below (is_greatest test count) n + 0 = one_below (is_greatest test count) n false (not_passing test count n fails) in
          omega (arith, before, all, none)
    ]

as_many : (root : CellConfig) (earlier : List CellConfig) (demand : Demand) (cell : CellConfig) → Fits root earlier demand cell → cpus_with (is_cpu_set cell.cpu_set) ≡ demand.cpus
as_many root earlier demand cell fits =
    let spare = is_spare root earlier in
    let mine : cpus_with (is_cpu_set cell.cpu_set) ≡ cpus_with (is_cpu_set fits.set) = ap (λ (c : CellConfig). cpus_with (is_cpu_set c.cpu_set)) fits.is in
    let same : cpus_with (is_cpu_set fits.set) ≡ cpus_with (is_greatest spare demand.cpus) = ap cpus_with (λ i cpu. fits.cpus.names cpu i) in
    omega (arith, mine, same, greatest_below spare demand.cpus 16 (omega arith) fits.cpus.enough, fits.cpus.enough)

-- ---- at the same number

pub as_long : (system : SystemConfig) (earlier : List CellConfig) (demands : List Demand) (cells : List CellConfig) → ArePlanned system earlier demands cells → length cells ≡ length demands
as_long system earlier [] [] planned = refl
as_long system earlier [] (c ∷ cs) planned = absurd planned
as_long system earlier (d ∷ ds) [] planned = absurd planned
as_long system earlier (d ∷ ds) (c ∷ cs) planned =
    let rest = as_long system (earlier ++ c ∷ []) ds cs planned.1 in
    omega (arith, rest)

fits_at : (system : SystemConfig) (earlier : List CellConfig) (demands : List Demand) (cells : List CellConfig) → ArePlanned system earlier demands cells
    → (n : ℕ) (demand : Demand) (cell : CellConfig) → slice_get demands n ≡ Some demand → slice_get cells n ≡ Some cell → (before : List CellConfig) × Fits system.root before demand cell
fits_at system earlier [] cells planned n demand cell wanted at = absurd (let past = slice_get_within [] n demand wanted in omega (arith, past))
fits_at system earlier (d ∷ ds) [] planned n demand cell wanted at = absurd planned
fits_at system earlier (d ∷ ds) (c ∷ cs) planned zero demand cell wanted at =
    let Fit : Demand → CellConfig → Type 0 = λ x y. Fits system.root earlier x y in
    (earlier, subst (Fit demand) (same_Some c cell at) (subst (λ x. Fit x c) (same_Some d demand wanted) planned.0.fits))
fits_at system earlier (d ∷ ds) (c ∷ cs) planned (suc n) demand cell wanted at = fits_at system (earlier ++ c ∷ []) ds cs planned.1 n demand cell wanted at

pub has_wanted : (system : SystemConfig) (demands : List Demand) (planned : Planned) → All IsDemand demands → IsPlan system demands planned
    → (n : ℕ) (demand : Demand) (cell : CellConfig) → slice_get demands n ≡ Some demand → slice_get planned.cells n ≡ Some cell → HasWanted demand cell
has_wanted system demands planned good plan n demand cell wanted at =
    let f = fits_at system [] demands planned.cells plan.are n demand cell wanted at in
    let fits = f.1 in
    let is_good = subst IsDemand (get_or_from_slice_get demands n demand demand wanted) (good n demand (slice_get_within demands n demand wanted)) in
    let cpus = as_many system.root f.0 demand cell fits in
    record {
      name = ap name_of fits.is ∙ name_before demand.name (32 - length demand.name) (name_parts demand.name is_good.name).bytes;
      id = ap (λ (c : CellConfig). c.id) fits.is;
      cpus = cpus;
      memory = (memory_region demand fits.place, ap (λ (c : CellConfig). slice_get c.memory_regions 0) fits.is, refl);
    }
