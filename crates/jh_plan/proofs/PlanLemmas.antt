-- One more demand that is met, and the first that isn't.
use Rattle.std.proofs.Common.{◌≡◌, ℕ, ◌+◌, ◌^◌, ◌<◌, ◌≤◌, List, [], ◌∷◌, ◌++◌, length, take, drop, get_or, sym, ap, subst, ◌∙◌, arith, append_assoc, length-take, sum_by}
use Rattle.std.proofs.lemmas.List.{append-nil, take_more, drop_more, take-append-drop}
use Rattle.std.specs.List.{All}
use Rattle.jh_cellcfg.specs.declared.config.CellConfig.{CellConfig}
use Rattle.jh_cellcfg.specs.declared.config.SystemConfig.{SystemConfig}
use Rattle.jh_check.proofs.Public.{clean_from_nothing, sound_root_holds}
use Rattle.jh_shape.specs.Pages.{own_pages}
use Rattle.jh_shape.proofs.Public.{own_le}
use Rattle.jh_history.specs.Admitted.{pool_pages, IsAdmittedSystem}
use Rattle.jh_plan.specs.declared.demand.Demand.{Demand}
use Rattle.jh_plan.specs.declared.fault.PlanFault.{PlanFault}
use Rattle.jh_plan.specs.declared.fault.PlanFault.TheVariants.{Demand as AtDemand, NoMemory}
use Rattle.jh_plan.specs.declared.cell.Seat.{Seat}
use Rattle.jh_plan.specs.declared.fault.Why.{Why}
use Rattle.jh_plan.specs.declared.fault.Why.TheVariants.{Taken, Cpus, Place, Pages}
use Rattle.jh_plan.specs.Fits.{cell_of, Fits}
use Rattle.jh_plan.specs.Plans.{pages_with, ArePlanned, IsCause, Plans, WhyNot}
use Rattle.jh_plan.specs.Private.Searches.{EndsWithin}
use Rattle.jh_plan.specs.Private.Seats.{IsSeat, IsUnseated}
use Rattle.jh_plan.specs.Private.Unmet.{IsUnmet}

pub planned_push : (system : SystemConfig) (earlier : List CellConfig) (demands : List Demand) (cells : List CellConfig) (demand : Demand) (cell : CellConfig) → ArePlanned system earlier demands cells → Plans system (earlier ++ cells) demand cell → ArePlanned system earlier (demands ++ demand ∷ []) (cells ++ cell ∷ [])
planned_push system earlier [] [] demand cell planned new =
    let After : List CellConfig → Type 0 = λ e. Plans system e demand cell in
    (subst After (append-nil earlier) new, tt)
planned_push system earlier [] (c ∷ cs) demand cell planned new = absurd planned
planned_push system earlier (d ∷ ds) [] demand cell planned new = absurd planned
planned_push system earlier (d ∷ ds) (c ∷ cs) demand cell planned new =
    let After : List CellConfig → Type 0 = λ e. Plans system e demand cell in
    (planned.0, planned_push system (earlier ++ c ∷ []) ds cs demand cell planned.1 (subst After (sym (append_assoc earlier (c ∷ []) cs)) new))

-- the demands so far, with the next
pub planned_next : (system : SystemConfig) (demands : List Demand) (cells pushed : List CellConfig) (index : ℕ) (demand : Demand) (cell : CellConfig) → index < length demands → get_or demands index demand ≡ demand → ArePlanned system [] (take index demands) cells → Plans system cells demand cell → pushed ≡ cells ++ cell ∷ [] → ArePlanned system [] (take (index + 1) demands) pushed
planned_next system demands cells pushed index demand cell within at planned new push =
    let more : take (index + 1) demands ≡ take index demands ++ demand ∷ [] = take_more demands index demand within ∙ ap (λ d. take index demands ++ d ∷ []) at in
    let Planned : List Demand → List CellConfig → Type 0 = λ ds cs. ArePlanned system [] ds cs in
    subst (λ ds. Planned ds pushed) (sym more) (subst (λ cs. Planned (take index demands ++ demand ∷ []) cs) (sym push) (planned_push system [] (take index demands) cells demand cell planned new))

-- the first demand that isn't met, behind those so far
pub cause_at : (system : SystemConfig) (demands : List Demand) (cells : List CellConfig) (index : ℕ) (demand : Demand) (fault : PlanFault) → index < length demands → get_or demands index demand ≡ demand → length cells ≡ index → ArePlanned system [] (take index demands) cells → IsUnmet system cells demand fault → IsCause system demands fault
cause_at system demands cells index demand NoMemory within at count planned unmet = tt
cause_at system demands cells index demand (AtDemand number why) within at count planned unmet = record {
  before = take index demands;
  demand = demand;
  rest = drop (index + 1) demands;
  demands_are = sym (take-append-drop index demands) ∙ ap (λ ds. take index demands ++ ds) (drop_more demands index demand within ∙ ap (λ d. d ∷ drop (index + 1) demands) at);
  number_is = unmet.0 ∙ ap (λ n. n + 1) (count ∙ sym (taken index demands within));
  cells = cells;
  planned = planned;
  unmet = unmet.1;
}
  where
    taken : (index : ℕ) (demands : List Demand) → index < length demands → length (take index demands) ≡ index
    taken index demands within = omega (arith, length-take index demands)

-- ---- an admitted system's root

pub root_within : (system : SystemConfig) → IsAdmittedSystem system → All EndsWithin system.root.memory_regions
root_within system admitted =
    let root = sound_root_holds system [] (clean_from_nothing system [] admitted.clean) in
    λ k d l some. (root.regions k d l some).within.phys

-- ---- room for sums

pub sum_small : (cells : List CellConfig) → length cells ≤ 15 → sum_by own_pages cells ≤ 2 ^ 31
sum_small cells few = omega (arith, own_le cells)

-- ---- one demand

pub unmet_of : (system : SystemConfig) (earlier : List CellConfig) (demand : Demand) (why : Why) → IsUnseated system.root earlier demand why → WhyNot system earlier demand why
unmet_of system earlier demand Taken unseated = unseated
unmet_of system earlier demand Cpus unseated = unseated
unmet_of system earlier demand Place unseated = unseated
unmet_of system earlier demand Pages unseated = absurd unseated

fits_of : (root : CellConfig) (earlier : List CellConfig) (demand : Demand) (seat : Seat) (config : CellConfig) → IsSeat root earlier demand seat → config ≡ cell_of demand seat.cpu_set seat.place → Fits root earlier demand config
fits_of root earlier demand seat config is_seat is = record {
  unknown = is_seat.unknown;
  set = seat.cpu_set;
  cpus = is_seat.cpus;
  place = seat.place;
  highest = is_seat.highest;
  room = is_seat.room;
  is = is;
}

pub plans_of : (system : SystemConfig) (earlier : List CellConfig) (demand : Demand) (seat : Seat) (config : CellConfig) → IsSeat system.root earlier demand seat → config ≡ cell_of demand seat.cpu_set seat.place → pages_with system (earlier ++ config ∷ []) ≤ pool_pages system → Plans system earlier demand config
plans_of system earlier demand seat config is_seat is pages = record { fits = fits_of system.root earlier demand seat config is_seat is; pages = pages }

pub pages_unmet : (system : SystemConfig) (earlier : List CellConfig) (demand : Demand) (seat : Seat) (config : CellConfig) → IsSeat system.root earlier demand seat → config ≡ cell_of demand seat.cpu_set seat.place → pool_pages system < pages_with system (earlier ++ config ∷ []) → WhyNot system earlier demand Pages
pages_unmet system earlier demand seat config is_seat is pages = (config, fits_of system.root earlier demand seat config is_seat is, pages)
