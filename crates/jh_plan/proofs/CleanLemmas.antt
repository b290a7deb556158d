-- Nothing is found in root and the cells of a plan: what each cell is for itself, and beside those before it.
use Rattle.std.proofs.Common.{◌≡◌, ℕ, ◌+◌, ◌*◌, ◌/◌, ◌%◌, ◌<◌, ◌≤◌, Bool, true, false, ◌&&◌, ◌==◌, nat_lt, nat_le, cond, bit_and, Some, slice_get, List, [], ◌∷◌, zero, suc, get_or, refl, sym, ap, subst, ◌∙◌, ◌⊎◌, inl, inr, arith}
use Rattle.std.specs.List.{All, Contains}
use Rattle.std.proofs.lemmas.Bool.{ltb-true, leb-true, lt-ltb, le-leb, eq-eqb, eqb-true, cases_lt, cases_Bool, both_ways, and_parts, and_from, false_from_ne_true}
use Rattle.std.proofs.lemmas.List.{get_or_past}
use Rattle.std.proofs.lemmas.Nat.Bits.{bit_at-zero, same_from_bits_below}
use Rattle.std.proofs.lemmas.Option.{same_Some, slice_get_within, get_or_from_slice_get}
use Rattle.jh_num.specs.declared.address.TheConstants.{ADDRESS_END, PAGE_SIZE}
use Rattle.jh_num.specs.Bits.{has_bit}
use Rattle.jh_cellcfg.specs.declared.config.CellConfig.{CellConfig}
use Rattle.jh_cellcfg.specs.declared.config.PciDevice.{PciDevice}
use Rattle.jh_cellcfg.specs.declared.config.SystemConfig.{SystemConfig}
use Rattle.jh_cellcfg.specs.declared.region.Region.{Region}
use Rattle.jh_cellcfg.specs.Cells.{is_cpu_set}
use Rattle.jh_cellcfg.specs.Regions.{has_address, has_place, is_comm, is_page_mapped, is_unshared, phys_end, phys_meet, virt_end, IsInRange}
use Rattle.jh_check.specs.Clean.{AreLinked, EachDevice, EachTwoDevices, AgreesWith, IsAligned, IsClean, IsCommPage, IsDevice, IsGoodDevice, IsReadIfExecuted, IsShmem, IsSoundBitmap}
use Rattle.jh_check.specs.Laws.{EachCell, EachItem, EachTwoItems, IsItem, IsNumbered, MeetAtAddressOnlyIf, MeetAtPlaceOnlyIf, SharesNoPlace}
use Rattle.jh_shape.specs.Pages.{count_below}
use Rattle.jh_plan.specs.declared.demand.Demand.{Demand}
use Rattle.jh_plan.specs.declared.place.TheConstants.{LARGE}
use Rattle.jh_plan.specs.Cpus.{cpus_above, is_greatest, is_spare, AreGreatestCpus}
use Rattle.jh_plan.specs.Demands.{IsDemand}
use Rattle.jh_plan.specs.Fits.{cell_of, comm_region, comm_start, memory_region, Fits}
use Rattle.jh_plan.proofs.CpuLemmas.{count_nothing, count_same, named_bit}
use Rattle.jh_check.specs.Findings.{findings}
use Rattle.jh_check.proofs.Public.{clean_from_nothing, nothing_from_clean}
use Rattle.jh_history.specs.Admitted.{IsAdmittedSystem}
use Rattle.jh_plan.specs.declared.planning.Planned.{Planned}
use Rattle.jh_plan.specs.Plans.{ArePlanned, IsPlan}
use Rattle.jh_plan.proofs.FitLemmas.{cpu_alone, place_alone}
use Rattle.jh_plan.proofs.StandLemmas.{demand_good, stands_at}
use Rattle.jh_plan.proofs.PlaceLemmas.{meets_from}
use Rattle.jh_plan.proofs.UniqueLemmas.{bit_told, same_bit}

-- ---- the two regions of a cell

abbrev IsRegionOf : Demand → ℕ → ℕ → Region → Type 0
IsRegionOf demand place r x = ((r ≡ 0) × (memory_region demand place ≡ x)) ⊎ ((r ≡ 1) × (comm_region demand ≡ x))

region_cases : (demand : Demand) (set : List ℕ) (place r : ℕ) (x : Region) → IsItem (cell_of demand set place) r x → IsRegionOf demand place r x
region_cases demand set place zero x at = inl (refl, same_Some (memory_region demand place) x at)
region_cases demand set place (suc zero) x at = inr (refl, same_Some (comm_region demand) x at)
region_cases demand set place (suc (suc r)) x at =
    let past = slice_get_within (memory_region demand place ∷ comm_region demand ∷ []) (suc (suc r)) x at in
    absurd (omega (arith, past))

plain_by : (loadable : Bool) → (bit_and (cond loadable 0x47 0x7) 0x20 == 0x20) ≡ false
plain_by true = refl
plain_by false = refl

reads_by : (loadable : Bool) → (bit_and (cond loadable 0x47 0x7) 0x1 == 0x1) ≡ true
reads_by true = refl
reads_by false = refl

-- a fact of a region of the cell that is no communication region is one of its memory
memory_only : (demand : Demand) (place r : ℕ) (x : Region) (P : Region → Type 0) → IsRegionOf demand place r x → is_comm x ≡ false → P (memory_region demand place) → P x
memory_only demand place r x P (inl (at, is)) plain holds = subst P is holds
memory_only demand place r x P (inr (at, is)) plain holds = absurd (both_ways (is_comm x) plain (ap is_comm (sym is)))

-- what the two regions are, each region of the cell is
both_regions : (demand : Demand) (place r : ℕ) (x : Region) (P : Region → Type 0) → IsRegionOf demand place r x → P (memory_region demand place) → P (comm_region demand) → P x
both_regions demand place r x P (inl (at, is)) memory comm = subst P is memory
both_regions demand place r x P (inr (at, is)) memory comm = subst P is comm

record HasAddress (x : Region) (at : ℕ) : Type 0 where
  begins : x.virt_start ≤ at
  ends : at < virt_end x

address_in : (x : Region) (at : ℕ) → has_address x at ≡ true → HasAddress x at
address_in x at has =
    let p = and_parts (nat_le x.virt_start at) (nat_lt at (virt_end x)) has in
    record { begins = leb-true x.virt_start at p.0; ends = ltb-true at (virt_end x) p.1 }

record HasPlace (x : Region) (at : ℕ) : Type 0 where
  begins : x.phys_start ≤ at
  ends : at < phys_end x

place_of : (x : Region) (at : ℕ) → has_place x at ≡ true → HasPlace x at
place_of x at has =
    let p = and_parts (nat_le x.phys_start at) (nat_lt at (phys_end x)) has in
    record { begins = leb-true x.phys_start at p.0; ends = ltb-true at (phys_end x) p.1 }

place_from : (x : Region) (at : ℕ) → HasPlace x at → has_place x at ≡ true
place_from x at p = and_from (nat_le x.phys_start at) (nat_lt at (phys_end x)) (le-leb x.phys_start at p.begins) (lt-ltb at (phys_end x) p.ends)

comm_behind : (size : ℕ) → size ≤ comm_start size
comm_behind size = omega arith

comm_aligned : (size : ℕ) → comm_start size % PAGE_SIZE ≡ 0
comm_aligned size = omega arith

aligned_by : (small : Bool) (place : ℕ) → cond small (place % PAGE_SIZE == 0) (place % LARGE == 0) ≡ true → place % PAGE_SIZE ≡ 0
aligned_by true place e = eqb-true (place % PAGE_SIZE) 0 e
aligned_by false place e =
    let large : place % LARGE ≡ 0 = eqb-true (place % LARGE) 0 e in
    omega (arith, large)

-- ---- a cell for itself

pub record IsSoundCell (system : SystemConfig) (cell : CellConfig) : Type 0 where
  addresses : EachTwoItems cell cell (λ r s x y. MeetAtAddressOnlyIf x y (r ≡ s))
  places : EachTwoItems cell cell (λ r s x y. is_comm x ≡ false → is_comm y ≡ false → MeetAtPlaceOnlyIf x y (r ≡ s))
  hypervisor : EachItem cell (λ r x. is_comm x ≡ false → SharesNoPlace x system.platform.hypervisor_memory)
  within : EachItem cell (λ r x. 0 < x.size → IsInRange x)
  comms : EachItem cell (λ r x. 0 < x.size → is_comm x ≡ true → IsCommPage cell r x)
  readable : EachItem cell (λ r x. IsReadIfExecuted x)
  whole : EachItem cell (λ r x. is_unshared x ≡ true → is_page_mapped x ≡ true)
  no_device : (n : ℕ) (device : PciDevice) → IsDevice cell n device → ⊥
  cpus : IsSoundBitmap cell.cpu_set
  aligned : EachItem cell (λ r x. IsAligned x)

addresses_single : (demand : Demand) (place r s : ℕ) (x y : Region) → IsRegionOf demand place r x → IsRegionOf demand place s y → MeetAtAddressOnlyIf x y (r ≡ s)
addresses_single demand place r s x y (inl (a, is)) (inl (b, also)) at one other = a ∙ sym b
addresses_single demand place r s x y (inr (a, is)) (inr (b, also)) at one other = a ∙ sym b
addresses_single demand place r s x y (inl (a, is)) (inr (b, also)) at one other =
    let low = address_in (memory_region demand place) at (ap (λ z. has_address z at) is ∙ one) in
    let high = address_in (comm_region demand) at (ap (λ z. has_address z at) also ∙ other) in
    absurd (omega (arith, low.ends, high.begins, comm_behind demand.size))
addresses_single demand place r s x y (inr (a, is)) (inl (b, also)) at one other =
    let low = address_in (memory_region demand place) at (ap (λ z. has_address z at) also ∙ other) in
    let high = address_in (comm_region demand) at (ap (λ z. has_address z at) is ∙ one) in
    absurd (omega (arith, low.ends, high.begins, comm_behind demand.size))

places_single : (demand : Demand) (place r s : ℕ) (x y : Region) → IsRegionOf demand place r x → IsRegionOf demand place s y → is_comm x ≡ false → is_comm y ≡ false → r ≡ s
places_single demand place r s x y (inl (a, is)) (inl (b, also)) plain other = a ∙ sym b
places_single demand place r s x y (inr (a, is)) of plain other = absurd (both_ways (is_comm x) plain (ap is_comm (sym is)))
places_single demand place r s x y (inl (a, is)) (inr (b, also)) plain other = absurd (both_ways (is_comm y) other (ap is_comm (sym also)))

comm_single : (demand : Demand) (place r s : ℕ) (x y : Region) → IsRegionOf demand place r x → IsRegionOf demand place s y → is_comm x ≡ true → is_comm y ≡ true → s ≡ r
comm_single demand place r s x y (inr (a, is)) (inr (b, also)) comm other = b ∙ sym a
comm_single demand place r s x y (inl (a, is)) of comm other = absurd (both_ways (is_comm x) (ap is_comm (sym is) ∙ plain_by demand.loadable) comm)
comm_single demand place r s x y (inr (a, is)) (inl (b, also)) comm other = absurd (both_ways (is_comm y) (ap is_comm (sym also) ∙ plain_by demand.loadable) other)

-- ---- its CPUs

-- the greatest number below n that passes
record Top (test : ℕ → Bool) (n : ℕ) : Type 0 where
  cpu : ℕ
  below : cpu < n
  passes : test cpu ≡ true
  last : count_below test (cpu + 1) ≡ count_below test n

top_of : (test : ℕ → Bool) (n : ℕ) → 1 ≤ count_below test n → Top test n
top_of test zero some =
    let none = count_nothing test 0 refl in
    absurd (omega (arith, some, none))
top_of test (suc n) some =
    elim (cases_Bool (test n)) [
      | inl passes ↦
          let next : n + 1 ≡ suc n = omega arith in
          record { cpu = n; below = omega arith; passes = passes; last = ap (count_below test) next }
      | inr fails ↦
          let same = count_same test n (suc n) refl fails in
          let t = top_of test n (omega (arith, some, same)) in
          record { cpu = t.cpu; below = omega (arith, t.below); passes = t.passes; last = t.last ∙ sym same }
    ]

some_named : (root : CellConfig) (earlier : List CellConfig) (count : ℕ) (set : List ℕ) → AreGreatestCpus root earlier count set → 1 ≤ count → (cpu : ℕ) × (is_cpu_set set cpu ≡ true)
some_named root earlier count set greatest some =
    let spare = is_spare root earlier in
    let top = top_of spare 16 (omega (arith, some, greatest.enough)) in
    let above : cpus_above spare top.cpu ≡ 0 = omega (arith, top.last) in
    let passes = and_from (nat_lt top.cpu 16) (spare top.cpu) (lt-ltb top.cpu 16 top.below) top.passes in
    let first = lt-ltb (cpus_above spare top.cpu) count (omega (arith, above, some)) in
    (top.cpu, greatest.names top.cpu ∙ and_from (nat_lt top.cpu 16 && spare top.cpu) (nat_lt (cpus_above spare top.cpu) count) passes first)

none_above : (root : CellConfig) (earlier : List CellConfig) (count cpu : ℕ) → 16 ≤ cpu → is_greatest (is_spare root earlier) count cpu ≡ false
none_above root earlier count cpu high =
    let spare = is_spare root earlier in
    false_from_ne_true (is_greatest spare count cpu) (λ t.
    let p = and_parts (nat_lt cpu 16 && spare cpu) (nat_lt (cpus_above spare cpu) count) t in
    let l = ltb-true cpu 16 (and_parts (nat_lt cpu 16) (spare cpu) p.0).0 in
    omega (arith, l, high))

empty_bit : (byte i : ℕ) → byte ≡ 0 → has_bit byte i ≡ false
empty_bit byte i empty = ap (λ b. has_bit b i) empty ∙ ap (λ n. n == 1) (bit_at-zero i)

sound_set : (root : CellConfig) (earlier : List CellConfig) (count : ℕ) (set : List ℕ) → AreGreatestCpus root earlier count set → 1 ≤ count → IsSoundBitmap set
sound_set root earlier count set greatest some =
    let named = some_named root earlier count set greatest some in
    let cpu = named.0 in
    record {
      some = (cpu / 8, λ none. both_ways (is_cpu_set set cpu) (named_bit set cpu ∙ empty_bit (get_or set (cpu / 8) 0) (cpu % 8) none) named.1);
      few = λ i two. elim (cases_lt i 8) [
        | inl within ↦ same_from_bits_below 8 (get_or set i 0) 0 (greatest.each i 0 (omega (arith, within, greatest.bytes))) (omega arith) (λ b small.
            same_bit (get_or set i 0) 0 b (sym (bit_told set i b small) ∙ greatest.names (i * 8 + b) ∙ none_above root earlier count (i * 8 + b) (omega (arith, two)) ∙ sym (empty_bit 0 b refl)))
        | inr past ↦ get_or_past set i 0 (omega (arith, past, greatest.bytes))
      ];
    }

-- ---- a cell of a plan is sound

sound_cell : (system : SystemConfig) (before : List CellConfig) (demand : Demand) (cell : CellConfig) → IsClean system [] → IsDemand demand → Fits system.root before demand cell → IsSoundCell system cell
sound_cell system before demand cell clean good fits =
    let place = fits.place in
    let memory = memory_region demand place in
    let comm = comm_region demand in
    let of = region_cases demand fits.set place in
    let home = fits.highest.free in
    let some : 0 < home.region.size = omega (arith, home.free.begins, home.free.ends, good.some_size) in
    let plain = clean.no_comm home.number home.region home.item some in
    let range = clean.within 0 system.root refl home.number home.region home.item some in
    let ends : place + demand.size ≤ ADDRESS_END = omega (arith, home.free.ends, range.phys plain) in
    let pages : is_page_mapped memory ≡ true = eq-eqb (demand.size % PAGE_SIZE) 0 good.whole in
    let clear : SharesNoPlace memory system.platform.hypervisor_memory = λ at one other.
    let p = place_of memory at one in
    let mine = place_from home.region at (record { begins = omega (arith, p.begins, home.free.begins); ends = omega (arith, p.ends, home.free.ends) }) in
    clean.hypervisor 0 system.root refl home.number home.region home.item plain at mine other in
    let memory_range : IsInRange memory = record { virt = omega (arith, comm_behind demand.size, fits.room); phys = λ unmarked. ends } in
    let comm_range : IsInRange comm = record { virt = fits.room; phys = λ unmarked. absurd (both_ways (is_comm comm) unmarked refl) } in
    subst (IsSoundCell system) (sym fits.is) (record {
      addresses = λ r s x y ix iy. addresses_single demand place r s x y (of r x ix) (of s y iy);
      places = λ r s x y ix iy one other at p q. places_single demand place r s x y (of r x ix) (of s y iy) one other;
      hypervisor = λ r x ix unmarked. memory_only demand place r x (λ z. SharesNoPlace z system.platform.hypervisor_memory) (of r x ix) unmarked clear;
      within = λ r x ix has. both_regions demand place r x IsInRange (of r x ix) memory_range comm_range;
      comms = λ r x ix has marked. record {
        size = comm_fact demand place r x (λ z. z.size ≡ PAGE_SIZE) (of r x ix) marked refl;
        aligned = comm_fact demand place r x (λ z. z.virt_start % PAGE_SIZE ≡ 0) (of r x ix) marked (comm_aligned demand.size);
        only = λ s y iy any also. comm_single demand place r s x y (of r x ix) (of s y iy) marked also;
      };
      readable = λ r x ix. both_regions demand place r x IsReadIfExecuted (of r x ix) (λ e. reads_by demand.loadable) (λ e. refl);
      whole = λ r x ix. both_regions demand place r x (λ z. is_unshared z ≡ true → is_page_mapped z ≡ true) (of r x ix) (λ e. pages) (λ e. absurd (both_ways (is_unshared comm) refl e));
      no_device = λ n device at. let past = slice_get_within [] n device at in omega (arith, past);
      cpus = sound_set system.root before demand.cpus fits.set fits.cpus good.some_cpus;
      aligned = λ r x ix mapped unmarked. memory_only demand place r x (λ z. z.phys_start % PAGE_SIZE ≡ 0) (of r x ix) unmarked (aligned_by (nat_lt demand.size LARGE) place home.free.aligned);
    })
  where
    comm_fact : (demand : Demand) (place r : ℕ) (x : Region) (P : Region → Type 0) → IsRegionOf demand place r x → is_comm x ≡ true → P (comm_region demand) → P x
    comm_fact demand place r x P (inr (at, is)) marked holds = subst P is holds
    comm_fact demand place r x P (inl (at, is)) marked holds = absurd (both_ways (is_comm x) (ap is_comm (sym is) ∙ plain_by demand.loadable) marked)

-- ---- all cells of a plan

abbrev pub AreSound : SystemConfig → List CellConfig → Type 0
AreSound system cells = (n : ℕ) (cell : CellConfig) → slice_get cells n ≡ Some cell → IsSoundCell system cell

each_cell : (system : SystemConfig) (cells : List CellConfig) (P : CellConfig → Type 0) → AreSound system cells → EachCell system [] P → ((cell : CellConfig) → IsSoundCell system cell → P cell) → EachCell system cells P
each_cell system cells P sound root others zero cell at = root zero cell at
each_cell system cells P sound root others (suc n) cell at = others cell (sound n cell at)

other_cell : (system : SystemConfig) (cells : List CellConfig) (P : CellConfig → Type 0) → AreSound system cells → ((cell : CellConfig) → IsSoundCell system cell → P cell) → (a : ℕ) (cell : CellConfig) → 0 < a → IsNumbered system cells a cell → P cell
other_cell system cells P sound others zero cell some at = absurd (omega (arith, some))
other_cell system cells P sound others (suc n) cell some at = others cell (sound n cell at)

no_links : (system : SystemConfig) (cells : List CellConfig) → AreSound system cells → (a b : ℕ) (one other : CellConfig) → b < a → IsNumbered system cells a one → IsNumbered system cells b other → EachTwoDevices one other (λ m n d e. AreLinked d e → AgreesWith one d other e)
no_links system cells sound zero b one other less is also m n d e md ne linked = absurd (omega (arith, less))
no_links system cells sound (suc a) b one other less is also m n d e md ne linked = absurd ((sound a one is).no_device m d md)

item_among : (cell : CellConfig) (r : ℕ) (x : Region) → IsItem cell r x → Contains cell.memory_regions x
item_among cell r x at = (r, slice_get_within cell.memory_regions r x at, get_or_from_slice_get cell.memory_regions r x x at)

-- no place is in memory of two of the cells
pub no_place : (system : SystemConfig) (demands : List Demand) (cells : List CellConfig) → ArePlanned system [] demands cells → (a b : ℕ) (one other : CellConfig) → 0 < a → a < b → IsNumbered system cells a one → IsNumbered system cells b other → EachTwoItems one other (λ r s x y. is_comm x ≡ false → is_comm y ≡ false → SharesNoPlace x y)
no_place system demands cells planned zero b one other some less is also r s x y ix iy plain unmarked at p q = omega (arith, some)
no_place system demands cells planned (suc a) zero one other some less is also r s x y ix iy plain unmarked at p q = omega (arith, less)
no_place system demands cells planned (suc a) (suc b) one other some less is also r s x y ix iy plain unmarked at p q =
    let later = stands_at system [] demands cells planned b other also in
    let among = later.behind a one (omega (arith, less)) is in
    let apart = place_alone system.root later.before later.demand other later.fits one among y x (item_among other s y iy) unmarked (item_among one r x ix) plain in
    let h = place_of x at p in
    let k = place_of y at q in
    both_ways (phys_meet x y) apart (meets_from x y (record {
      some = omega (arith, h.begins, h.ends);
      other = omega (arith, k.begins, k.ends);
      begins = omega (arith, h.begins, k.ends);
      ends = omega (arith, k.begins, h.ends);
    }))

-- no CPU is one of two of the cells
pub no_cpu : (system : SystemConfig) (demands : List Demand) (cells : List CellConfig) → ArePlanned system [] demands cells → (a b : ℕ) (one other : CellConfig) → 0 < a → a < b → IsNumbered system cells a one → IsNumbered system cells b other → (cpu : ℕ) → is_cpu_set one.cpu_set cpu ≡ true → is_cpu_set other.cpu_set cpu ≡ false
no_cpu system demands cells planned zero b one other some less is also cpu has = absurd (omega (arith, some))
no_cpu system demands cells planned (suc a) zero one other some less is also cpu has = absurd (omega (arith, less))
no_cpu system demands cells planned (suc a) (suc b) one other some less is also cpu has =
    let later = stands_at system [] demands cells planned b other also in
    let among = later.behind a one (omega (arith, less)) is in
    false_from_ne_true (is_cpu_set other.cpu_set cpu) (λ mine.
    both_ways (is_cpu_set one.cpu_set cpu) (cpu_alone system.root later.before later.demand other later.fits one among cpu mine) has)

-- no two of the cells besides root have a place together
abbrev pub AreApart : SystemConfig → List CellConfig → Type 0
AreApart system cells = (a b : ℕ) (one other : CellConfig) → 0 < a → a < b → IsNumbered system cells a one → IsNumbered system cells b other → EachTwoItems one other (λ r s x y. is_comm x ≡ false → is_comm y ≡ false → SharesNoPlace x y)

-- cells that are sound for themselves and apart
pub clean_cells : (system : SystemConfig) (cells : List CellConfig) → IsClean system [] → AreSound system cells → AreApart system cells → IsClean system cells
clean_cells system cells clean sound apart =
    record {
      addresses = each_cell system cells (λ cell. EachTwoItems cell cell (λ r s x y. MeetAtAddressOnlyIf x y (r ≡ s))) sound clean.addresses (λ cell s. s.addresses);
      places = each_cell system cells (λ cell. EachTwoItems cell cell (λ r s x y. is_comm x ≡ false → is_comm y ≡ false → MeetAtPlaceOnlyIf x y (r ≡ s))) sound clean.places (λ cell s. s.places);
      hypervisor = each_cell system cells (λ cell. EachItem cell (λ r x. is_comm x ≡ false → SharesNoPlace x system.platform.hypervisor_memory)) sound clean.hypervisor (λ cell s. s.hypervisor);
      memory = clean.memory;
      within = each_cell system cells (λ cell. EachItem cell (λ r x. 0 < x.size → IsInRange x)) sound clean.within (λ cell s. s.within);
      identity = clean.identity;
      no_comm = clean.no_comm;
      comms = other_cell system cells (λ cell. EachItem cell (λ r x. 0 < x.size → is_comm x ≡ true → IsCommPage cell r x)) sound (λ cell s. s.comms);
      readable = each_cell system cells (λ cell. EachItem cell (λ r x. 0 < x.size → IsReadIfExecuted x)) sound clean.readable (λ cell s r x ix some. s.readable r x ix);
      pages = other_cell system cells (λ cell. EachTwoItems cell system.root (λ r s x y. is_unshared x ≡ true → is_page_mapped x ≡ false → is_page_mapped y ≡ true → SharesNoPlace x y)) sound (λ cell s r t x y ix iy unshared unmarked marked. absurd (both_ways (is_page_mapped x) unmarked (s.whole r x ix unshared)));
      together = λ a b one other some less is also r s x y ix iy plain unmarked at p q. absurd (apart a b one other some less is also r s x y ix iy plain unmarked at p q);
      devices = each_cell system cells (λ cell. EachDevice cell (λ device. IsShmem device → IsGoodDevice cell device)) sound clean.devices (λ cell s n device at shmem. absurd (s.no_device n device at));
      single = each_cell system cells (λ cell. EachTwoDevices cell cell (λ m n d e. AreLinked d e → m ≡ n)) sound clean.single (λ cell s m n d e md ne linked. absurd (s.no_device m d md));
      links = no_links system cells sound;
      cpus = each_cell system cells (λ cell. IsSoundBitmap cell.cpu_set) sound clean.cpus (λ cell s. s.cpus);
      aligned = each_cell system cells (λ cell. EachItem cell (λ r x. 0 < x.size → IsAligned x)) sound clean.aligned (λ cell s r x ix some. s.aligned r x ix);
    }

-- each cell of a plan is sound
pub sound_plan : (system : SystemConfig) (demands : List Demand) (cells : List CellConfig) → IsClean system [] → All IsDemand demands → ArePlanned system [] demands cells → AreSound system cells
sound_plan system demands cells clean good planned n cell at =
    let s = stands_at system [] demands cells planned n cell at in
    sound_cell system s.before s.demand cell clean (demand_good demands s.demand good s.wanted) s.fits

clean_plan : (system : SystemConfig) (demands : List Demand) (cells : List CellConfig) → IsClean system [] → All IsDemand demands → ArePlanned system [] demands cells → IsClean system cells
clean_plan system demands cells clean good planned = clean_cells system cells clean (sound_plan system demands cells clean good planned) (no_place system demands cells planned)

pub nothing_found : (system : SystemConfig) (demands : List Demand) (planned : Planned) → IsAdmittedSystem system → All IsDemand demands → IsPlan system demands planned → findings system planned.cells ≡ []
nothing_found system demands planned admitted good plan =
    nothing_from_clean system planned.cells (clean_plan system demands planned.cells (clean_from_nothing system [] admitted.clean) good plan.are)
