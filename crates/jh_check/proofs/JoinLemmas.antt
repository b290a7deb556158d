-- Nothing is found exactly in what is clean, a clean cell joins, and fewer cells stay clean.
use Rattle.std.proofs.Common.{◌≡◌, ℕ, ◌+◌, ◌<◌, ◌≤◌, Bool, true, false, not, ◌==◌, List, [], ◌∷◌, ◌++◌, length, take, zero, suc, Some, slice_get, refl, sym, ap, subst, ◌⊎◌, inl, inr, arith}
use Rattle.std.specs.Prelude.{Contains}
use Rattle.std.specs.List.{list_any}
use Rattle.std.proofs.lemmas.Bool.{eq-eqb, or_left, or_right, and_from, cases_Bool, not_from_false, both_ways}
use Rattle.std.proofs.lemmas.List.{take-append-le}
use Rattle.jh_cellcfg.specs.declared.region.Region.{Region}
use Rattle.jh_cellcfg.specs.declared.config.CellConfig.{CellConfig}
use Rattle.jh_cellcfg.specs.declared.config.SystemConfig.{SystemConfig}
use Rattle.jh_check.specs.declared.finding.Finding.{Finding}
use Rattle.jh_check.specs.declared.rule.Rule.{Rule}
use Rattle.jh_check.specs.declared.rule.Rule.TheVariants.{VirtOverlap, PhysOverlap, Hypervisor, OutOfRange, RootNotIdentity, CommInRoot, CommShape, ExecuteWithoutRead, SubpageTaken, CellsOverlap, Shmem, NoCpu, PhysAlign}
use Rattle.jh_check.specs.declared.verdict.NewCell.TheVariants.{Clean}
use Rattle.jh_check.specs.Regions.{hypervisor_breaks}
use Rattle.jh_check.specs.Devices.{device_breaks}
use Rattle.jh_check.specs.Findings.{finding_of, findings}
use Rattle.jh_check.specs.Verdicts.{names, is_cells_overlap, makes_invalid, makes_busy, verdict_by, verdict_of}
use Rattle.jh_check.proofs.Tested.{OfPair, OfRegion, OfMemory, OfDevice, OfCpus, OfRule, IsTested}
use Rattle.jh_check.specs.Clean.{IsClean}
use Rattle.jh_num.proofs.Public.{list_any_from_Contains}
use Rattle.jh_check.proofs.FindingLemmas.{nothing_in, in_nothing, tested_from_listed, listed_from_tested}
use Rattle.jh_check.proofs.CleanLemmas.{PairsHold, RegionsHold, addresses_from, addresses_to, places_from, places_to, hypervisor_from, hypervisor_to, memory_from, memory_range, memory_align, within_from, within_to, readable_from, readable_to, aligned_from, aligned_to, identity_from, identity_to, no_comm_from, no_comm_to, comms_from, comms_to, pages_from, pages_to, together_from, together_to}
use Rattle.jh_check.proofs.DeviceLemmas.{DevicesHold, CpusHold, devices_from, single_from, links_from, devices_to, cpus_from, cpus_to}

-- ---- nothing is broken

pairs_hold : (rule : Rule) (all : List CellConfig) → ((f : Finding) → OfPair rule all f → ⊥) → PairsHold rule all
pairs_hold rule all none a b one other r s x y na nb ir is t =
    none (finding_of rule a r b s) (record { a = a; b = b; one = one; other = other; r = r; s = s; x = x; y = y; is_one = na; is_other = nb; is_x = ir; is_y = is; breaks = t; told = refl })

hold_pairs : (rule : Rule) (all : List CellConfig) → PairsHold rule all → (f : Finding) → OfPair rule all f → ⊥
hold_pairs rule all h f p = h p.a p.b p.one p.other p.r p.s p.x p.y p.is_one p.is_other p.is_x p.is_y p.breaks

regions_hold : (rule : Rule) (h : Region) (all : List CellConfig) → ((f : Finding) → OfRegion rule h all f → ⊥) → RegionsHold rule h all
regions_hold rule h all none a one r x na ir t =
    none (finding_of rule a r 0 0) (record { a = a; one = one; r = r; x = x; is_one = na; is_x = ir; breaks = t; told = refl })

hold_regions : (rule : Rule) (h : Region) (all : List CellConfig) → RegionsHold rule h all → (f : Finding) → OfRegion rule h all f → ⊥
hold_regions rule h all k f p = k p.a p.one p.r p.x p.is_one p.is_x p.breaks

memory_holds : (rule : Rule) (h : Region) → ((f : Finding) → OfMemory rule h f → ⊥) → hypervisor_breaks rule h ≡ true → ⊥
memory_holds rule h none t = none (finding_of rule 16 0 0 0) (record { breaks = t; told = refl })

devices_hold : (all : List CellConfig) → ((f : Finding) → OfDevice all f → ⊥) → DevicesHold all
devices_hold all none a one n d na i t =
    none (finding_of Shmem a n 0 0) (record { a = a; one = one; n = n; device = d; is_one = na; is_device = i; breaks = t; told = refl })

cpus_hold : (all : List CellConfig) → ((f : Finding) → OfCpus all f → ⊥) → CpusHold all
cpus_hold all none a one na t = none (finding_of NoCpu a 0 0 0) (record { a = a; one = one; is_one = na; breaks = t; told = refl })

-- ---- what is clean

clean_from : (system : SystemConfig) (cells : List CellConfig) → ((f : Finding) → IsTested system cells f → ⊥) → IsClean system cells
clean_from system cells none =
    let h = system.platform.hypervisor_memory in
    let all = system.root ∷ cells in
    let devices = devices_hold all (λ f p. none f (record { rule = Shmem; by = p })) in
    record {
      addresses = addresses_from system cells (pairs_hold VirtOverlap all (λ f p. none f (record { rule = VirtOverlap; by = p })));
      places = places_from system cells (pairs_hold PhysOverlap all (λ f p. none f (record { rule = PhysOverlap; by = p })));
      hypervisor = hypervisor_from system cells (regions_hold Hypervisor h all (λ f p. none f (record { rule = Hypervisor; by = p })));
      memory = memory_from h (memory_holds OutOfRange h (λ f p. none f (record { rule = OutOfRange; by = inr p }))) (memory_holds PhysAlign h (λ f p. none f (record { rule = PhysAlign; by = inr p })));
      within = within_from system cells (regions_hold OutOfRange h all (λ f p. none f (record { rule = OutOfRange; by = inl p })));
      identity = identity_from system cells (regions_hold RootNotIdentity h all (λ f p. none f (record { rule = RootNotIdentity; by = p })));
      no_comm = no_comm_from system cells (regions_hold CommInRoot h all (λ f p. none f (record { rule = CommInRoot; by = p })));
      comms = comms_from system cells (regions_hold CommShape h all (λ f p. none f (record { rule = CommShape; by = p })));
      readable = readable_from system cells (regions_hold ExecuteWithoutRead h all (λ f p. none f (record { rule = ExecuteWithoutRead; by = p })));
      pages = pages_from system cells (pairs_hold SubpageTaken all (λ f p. none f (record { rule = SubpageTaken; by = p })));
      together = together_from system cells (pairs_hold CellsOverlap all (λ f p. none f (record { rule = CellsOverlap; by = p })));
      devices = devices_from system cells devices;
      single = single_from system cells devices;
      links = links_from system cells devices;
      cpus = cpus_from system cells (cpus_hold all (λ f p. none f (record { rule = NoCpu; by = p })));
      aligned = aligned_from system cells (regions_hold PhysAlign h all (λ f p. none f (record { rule = PhysAlign; by = inl p })));
    }

unbroken : (system : SystemConfig) (cells : List CellConfig) → IsClean system cells → (rule : Rule) (f : Finding) → OfRule rule system.platform.hypervisor_memory (system.root ∷ cells) f → ⊥
unbroken system cells c VirtOverlap f p = hold_pairs VirtOverlap (system.root ∷ cells) (addresses_to system cells c.addresses) f p
unbroken system cells c PhysOverlap f p = hold_pairs PhysOverlap (system.root ∷ cells) (places_to system cells c.places) f p
unbroken system cells c Hypervisor f p = hold_regions Hypervisor system.platform.hypervisor_memory (system.root ∷ cells) (hypervisor_to system cells c.hypervisor) f p
unbroken system cells c OutOfRange f (inl p) = hold_regions OutOfRange system.platform.hypervisor_memory (system.root ∷ cells) (within_to system cells c.within) f p
unbroken system cells c OutOfRange f (inr p) = memory_range system.platform.hypervisor_memory c.memory p.breaks
unbroken system cells c RootNotIdentity f p = hold_regions RootNotIdentity system.platform.hypervisor_memory (system.root ∷ cells) (identity_to system cells c.identity) f p
unbroken system cells c CommInRoot f p = hold_regions CommInRoot system.platform.hypervisor_memory (system.root ∷ cells) (no_comm_to system cells c.no_comm) f p
unbroken system cells c CommShape f p = hold_regions CommShape system.platform.hypervisor_memory (system.root ∷ cells) (comms_to system cells c.comms) f p
unbroken system cells c ExecuteWithoutRead f p = hold_regions ExecuteWithoutRead system.platform.hypervisor_memory (system.root ∷ cells) (readable_to system cells c.readable) f p
unbroken system cells c SubpageTaken f p = hold_pairs SubpageTaken (system.root ∷ cells) (pages_to system cells c.pages) f p
unbroken system cells c CellsOverlap f p = hold_pairs CellsOverlap (system.root ∷ cells) (together_to system cells c.together) f p
unbroken system cells c Shmem f p = devices_to system cells c.devices c.single c.links p.a p.one p.n p.device p.is_one p.is_device p.breaks
unbroken system cells c NoCpu f p = cpus_to system cells c.cpus p.a p.one p.is_one p.breaks
unbroken system cells c PhysAlign f (inl p) = hold_regions PhysAlign system.platform.hypervisor_memory (system.root ∷ cells) (aligned_to system cells c.aligned) f p
unbroken system cells c PhysAlign f (inr p) = memory_align system.platform.hypervisor_memory c.memory p.breaks

pub clean_from_nothing : (system : SystemConfig) (cells : List CellConfig) → findings system cells ≡ [] → IsClean system cells
clean_from_nothing system cells e =
    clean_from system cells (λ f b. in_nothing (findings system cells) f e (listed_from_tested system cells f b))

pub nothing_from_clean : (system : SystemConfig) (cells : List CellConfig) → IsClean system cells → findings system cells ≡ []
nothing_from_clean system cells c =
    nothing_in (findings system cells) (λ f m.
    let b = tested_from_listed system cells f m in
    unbroken system cells c b.rule f b.by)

-- ---- a clean cell joins

-- an item of two lists, one behind the other
get_append : {X : Type 0} (xs ys : List X) (i : ℕ) (x : X) → slice_get (xs ++ ys) i ≡ Some x → ((i < length xs) × (slice_get xs i ≡ Some x)) ⊎ (length xs ≤ i)
get_append [] ys i x h = inr (omega arith)
get_append (y ∷ xs) ys zero x h = inl (omega arith, h)
get_append (y ∷ xs) ys (suc i) x h =
    elim (get_append xs ys i x h) [
      | inl r ↦ inl (omega (arith, r.0), r.1)
      | inr l ↦ inr (omega arith)
    ]

past_end : {X : Type 0} (xs : List X) (x y : X) (i : ℕ) → slice_get (xs ++ x ∷ []) i ≡ Some y → length xs ≤ i → i ≡ length xs
past_end [] x y zero h l = refl
past_end [] x y (suc i) h l = cc
past_end (z ∷ xs) x y zero h l = absurd (omega arith)
past_end (z ∷ xs) x y (suc i) h l = ap suc (past_end xs x y i h (omega arith))

-- it is among the first, or is the last
abbrev IsLower : {X : Type 0} → List X → ℕ → X → Type 0
IsLower xs i x = (i < length xs) × (slice_get xs i ≡ Some x)

lower : {X : Type 0} (xs : List X) (new : X) (i : ℕ) (x : X) → slice_get (xs ++ new ∷ []) i ≡ Some x → IsLower xs i x ⊎ (i ≡ length xs)
lower xs new i x h =
    elim (get_append xs (new ∷ []) i x h) [
      | inl r ↦ inl r
      | inr l ↦ inr (past_end xs new x i h l)
    ]

named_first : (rule : Rule) (n a r b s : ℕ) (f : Finding) → f ≡ finding_of rule a r b s → a ≡ n → names n f ≡ true
unfolding finding_of
named_first rule n a r b s f e q =
    subst (λ g. names n g ≡ true) (sym e) (or_left (a == n) (b == n) (eq-eqb a n q))

named_second : (rule : Rule) (n a r b s : ℕ) (f : Finding) → f ≡ finding_of rule a r b s → b ≡ n → names n f ≡ true
unfolding finding_of
named_second rule n a r b s f e q =
    subst (λ g. names n g ≡ true) (sym e) (or_right (a == n) (b == n) (eq-eqb b n q))

-- a finding of all names the last cell, or is one of the first cells
abbrev IsOld : (List CellConfig → Finding → Type 0) → List CellConfig → Finding → Type 0
IsOld Of xs f = (names (length xs) f ≡ true) ⊎ Of xs f

old_pair : (rule : Rule) (xs : List CellConfig) (new : CellConfig) (f : Finding) → OfPair rule (xs ++ new ∷ []) f → IsOld (OfPair rule) xs f
old_pair rule xs new f p =
    elim (lower xs new p.a p.one p.is_one) [
      | inr q ↦ inl (named_first rule (length xs) p.a p.r p.b p.s f p.told q)
      | inl u ↦ elim (lower xs new p.b p.other p.is_other) [
        | inr q ↦ inl (named_second rule (length xs) p.a p.r p.b p.s f p.told q)
        | inl v ↦ inr (record { a = p.a; b = p.b; one = p.one; other = p.other; r = p.r; s = p.s; x = p.x; y = p.y; is_one = u.1; is_other = v.1; is_x = p.is_x; is_y = p.is_y; breaks = p.breaks; told = p.told })
      ]
    ]

old_region : (rule : Rule) (h : Region) (xs : List CellConfig) (new : CellConfig) (f : Finding) → OfRegion rule h (xs ++ new ∷ []) f → IsOld (OfRegion rule h) xs f
old_region rule h xs new f p =
    elim (lower xs new p.a p.one p.is_one) [
      | inr q ↦ inl (named_first rule (length xs) p.a p.r 0 0 f p.told q)
      | inl u ↦ inr (record { a = p.a; one = p.one; r = p.r; x = p.x; is_one = u.1; is_x = p.is_x; breaks = p.breaks; told = p.told })
    ]

old_device : (xs : List CellConfig) (new : CellConfig) (f : Finding) → OfDevice (xs ++ new ∷ []) f → IsOld OfDevice xs f
old_device xs new f p =
    elim (lower xs new p.a p.one p.is_one) [
      | inr q ↦ inl (named_first Shmem (length xs) p.a p.n 0 0 f p.told q)
      | inl u ↦
          let within : p.a ≤ length xs = omega (arith, u.0) in
          let same = take-append-le p.a xs (new ∷ []) within in
          inr (record { a = p.a; one = p.one; n = p.n; device = p.device; is_one = u.1; is_device = p.is_device; breaks = subst (λ ls. device_breaks ls p.one (take p.n p.one.pci_devices) p.device ≡ true) same p.breaks; told = p.told })
    ]

old_cpus : (xs : List CellConfig) (new : CellConfig) (f : Finding) → OfCpus (xs ++ new ∷ []) f → IsOld OfCpus xs f
old_cpus xs new f p =
    elim (lower xs new p.a p.one p.is_one) [
      | inr q ↦ inl (named_first NoCpu (length xs) p.a 0 0 0 f p.told q)
      | inl u ↦ inr (record { a = p.a; one = p.one; is_one = u.1; breaks = p.breaks; told = p.told })
    ]

old_both : (rule : Rule) (h : Region) (xs : List CellConfig) (new : CellConfig) (f : Finding) → OfRegion rule h (xs ++ new ∷ []) f ⊎ OfMemory rule h f → IsOld (λ ls g. OfRegion rule h ls g ⊎ OfMemory rule h g) xs f
old_both rule h xs new f (inl p) = elim (old_region rule h xs new f p) [ inl n ↦ inl n | inr q ↦ inr (inl q) ]
old_both rule h xs new f (inr p) = inr (inr p)

old : (rule : Rule) (h : Region) (xs : List CellConfig) (new : CellConfig) (f : Finding) → OfRule rule h (xs ++ new ∷ []) f → IsOld (OfRule rule h) xs f
old VirtOverlap h xs new f p = old_pair VirtOverlap xs new f p
old PhysOverlap h xs new f p = old_pair PhysOverlap xs new f p
old Hypervisor h xs new f p = old_region Hypervisor h xs new f p
old OutOfRange h xs new f p = old_both OutOfRange h xs new f p
old RootNotIdentity h xs new f p = old_region RootNotIdentity h xs new f p
old CommInRoot h xs new f p = old_region CommInRoot h xs new f p
old CommShape h xs new f p = old_region CommShape h xs new f p
old ExecuteWithoutRead h xs new f p = old_region ExecuteWithoutRead h xs new f p
old SubpageTaken h xs new f p = old_pair SubpageTaken xs new f p
old CellsOverlap h xs new f p = old_pair CellsOverlap xs new f p
old Shmem h xs new f p = old_device xs new f p
old NoCpu h xs new f p = old_cpus xs new f p
old PhysAlign h xs new f p = old_both PhysAlign h xs new f p

-- where a cell is told clean, no finding names it
clean_parts : (invalid busy : Bool) → verdict_by invalid busy ≡ Clean → (invalid ≡ false) × (busy ≡ false)
clean_parts true busy h = cc
clean_parts false true h = cc
clean_parts false false h = (refl, refl)

unnamed : (xs : List Finding) (n : ℕ) → list_any (makes_invalid n) xs ≡ false → list_any (makes_busy n) xs ≡ false → (f : Finding) → Contains xs f → names n f ≡ true → ⊥
unnamed xs n i b f c t =
    elim (cases_Bool (is_cells_overlap f)) [
      | inl o ↦ both_ways (list_any (makes_busy n) xs) b (list_any_from_Contains (makes_busy n) xs f c (and_from (names n f) (is_cells_overlap f) t o))
      | inr o ↦ both_ways (list_any (makes_invalid n) xs) i (list_any_from_Contains (makes_invalid n) xs f c (and_from (names n f) (not (is_cells_overlap f)) t (not_from_false (is_cells_overlap f) o)))
    ]

pub joins_clean : (system : SystemConfig) (live : List CellConfig) (new : CellConfig) → IsClean system live → verdict_of system live new ≡ Clean → IsClean system (live ++ new ∷ [])
unfolding verdict_of
joins_clean system live new c v =
    let all = findings system (live ++ new ∷ []) in
    let n = length live + 1 in
    let p = clean_parts (list_any (makes_invalid n) all) (list_any (makes_busy n) all) v in
    let e : length (system.root ∷ live) ≡ n = omega arith in
    clean_from system (live ++ new ∷ []) (λ f b.
    elim (old b.rule system.platform.hypervisor_memory (system.root ∷ live) new f b.by) [
      | inl named ↦ unnamed all n p.0 p.1 f (listed_from_tested system (live ++ new ∷ []) f b) (subst (λ m. names m f ≡ true) e named)
      | inr q ↦ unbroken system live c b.rule f q
    ])

-- and where nothing is found with it, it is told clean
pub joined_clean : (system : SystemConfig) (live : List CellConfig) (new : CellConfig) → IsClean system (live ++ new ∷ []) → verdict_of system live new ≡ Clean
unfolding verdict_of
joined_clean system live new c =
    let n = length live + 1 in
    ap (λ (fs : List Finding). verdict_by (list_any (makes_invalid n) fs) (list_any (makes_busy n) fs)) (nothing_from_clean system (live ++ new ∷ []) c)

-- ---- fewer cells

-- the number that a cell had before the one of the number n went
up : ℕ → ℕ → ℕ
up zero i = suc i
up (suc n) zero = zero
up (suc n) (suc i) = suc (up n i)

up_less : (n i j : ℕ) → i < j → up n i < up n j
unfolding up
up_less zero i j l = omega arith
up_less (suc n) i zero l = absurd (omega arith)
up_less (suc n) zero (suc j) l = omega arith
up_less (suc n) (suc i) (suc j) l = let k = up_less n i j (omega arith) in omega arith

up_above : (n i : ℕ) → 0 < i → 0 < up (suc n) i
unfolding up
up_above n zero l = absurd (omega arith)
up_above n (suc i) l = omega arith

get_up : {X : Type 0} (xs ys : List X) (c : X) (i : ℕ) (x : X) → slice_get (xs ++ ys) i ≡ Some x → slice_get (xs ++ c ∷ ys) (up (length xs) i) ≡ Some x
unfolding up
get_up [] ys c i x h = h
get_up (y ∷ xs) ys c zero x h = h
get_up (y ∷ xs) ys c (suc i) x h = get_up xs ys c i x h

pub fewer_clean : (system : SystemConfig) (xs ys : List CellConfig) (gone : CellConfig) → IsClean system (xs ++ gone ∷ ys) → IsClean system (xs ++ ys)
fewer_clean system xs ys gone c =
    let n = length xs in
    let u = up (suc n) in
    let at = λ (a : ℕ) (cell : CellConfig) (h : slice_get ((system.root ∷ xs) ++ ys) a ≡ Some cell). get_up (system.root ∷ xs) ys gone a cell h in
    record {
      addresses = λ a cell h. c.addresses (u a) cell (at a cell h);
      places = λ a cell h. c.places (u a) cell (at a cell h);
      hypervisor = λ a cell h. c.hypervisor (u a) cell (at a cell h);
      memory = c.memory;
      within = λ a cell h. c.within (u a) cell (at a cell h);
      identity = c.identity;
      no_comm = c.no_comm;
      comms = λ a cell l h. c.comms (u a) cell (up_above n a l) (at a cell h);
      readable = λ a cell h. c.readable (u a) cell (at a cell h);
      pages = λ a cell l h. c.pages (u a) cell (up_above n a l) (at a cell h);
      together = λ a b one other l m h k. c.together (u a) (u b) one other (up_above n a l) (up_less (suc n) a b m) (at a one h) (at b other k);
      devices = λ a cell h. c.devices (u a) cell (at a cell h);
      single = λ a cell h. c.single (u a) cell (at a cell h);
      links = λ a b one other l h k. c.links (u a) (u b) one other (up_less (suc n) b a l) (at a one h) (at b other k);
      cpus = λ a cell h. c.cpus (u a) cell (at a cell h);
      aligned = λ a cell h. c.aligned (u a) cell (at a cell h);
    }
