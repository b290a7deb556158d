-- Which findings a list of findings has.
use Rattle.std.proofs.Common.{◌≡◌, ℕ, ◌+◌, ◌<◌, Bool, true, false, List, [], ◌∷◌, ◌++◌, take, get_or, zero, suc, Some, slice_get, refl, sym, subst, ◌⊎◌, inl, inr, arith}
use Rattle.std.specs.Prelude.{Contains}
use Rattle.std.proofs.lemmas.Bool.{false≢true}
use Rattle.std.proofs.lemmas.List.Elements.{Contains-append_left, Contains-append_right, Contains-append_cases}
use Rattle.jh_cellcfg.specs.declared.region.Region.{Region}
use Rattle.jh_cellcfg.specs.declared.config.CellConfig.{CellConfig}
use Rattle.jh_cellcfg.specs.declared.config.SystemConfig.{SystemConfig}
use Rattle.jh_check.specs.declared.finding.Finding.{Finding}
use Rattle.jh_check.specs.declared.rule.Rule.{Rule}
use Rattle.jh_check.specs.declared.rule.Rule.TheVariants.{VirtOverlap, PhysOverlap, Hypervisor, OutOfRange, RootNotIdentity, CommInRoot, CommShape, ExecuteWithoutRead, SubpageTaken, CellsOverlap, Shmem, NoCpu, PhysAlign}
use Rattle.jh_check.specs.Regions.{pair_breaks, region_breaks, hypervisor_breaks}
use Rattle.jh_check.specs.Devices.{device_breaks, cpus_break}
use Rattle.jh_check.specs.Lists.{found_from, only_if}
use Rattle.jh_check.specs.Findings.{spot, finding_of, beside, beside_at, between, between_at, from_cell, in_pairs, in_cell, in_cell_at, in_regions, in_regions_at, in_hypervisor, device_at, in_devices_of, in_devices_at, in_devices, in_cpus_at, in_cpus, found_by, found_at, rules_in_order, findings}
use Rattle.jh_check.proofs.Tested.{OfPair, OfRegion, OfMemory, OfDevice, OfCpus, OfRule, IsTested}

-- ---- lists

-- an item that gives the finding
abbrev pub IsFindingAt : {X : Type 0} → (ℕ → X → List Finding) → ℕ → List X → Finding → Type 0
IsFindingAt {X} found n xs f = (i : ℕ) × (x : X) × (slice_get xs i ≡ Some x) × Contains (found (n + i) x) f

pub found_at_holds : {X : Type 0} (found : ℕ → X → List Finding) (n : ℕ) (xs : List X) (f : Finding) → Contains (found_from found n xs) f → IsFindingAt found n xs f
unfolding found_from
found_at_holds found n [] f c = absurd (omega (arith, c.1))
found_at_holds found n (x ∷ xs) f c =
    elim (Contains-append_cases (found n x) (found_from found (n + 1) xs) f c) [
      | inl h ↦ (0, x, refl, subst (λ m. Contains (found m x) f) (let e : n ≡ n + 0 = omega arith in e) h)
      | inr h ↦
          let r = found_at_holds found (n + 1) xs f h in
          (suc (r.0), r.1, r.2, subst (λ m. Contains (found m r.1) f) (let e : (n + 1) + r.0 ≡ n + suc (r.0) = omega arith in e) r.3)
    ]

at_found : {X : Type 0} (found : ℕ → X → List Finding) (n : ℕ) (xs : List X) (f : Finding) (i : ℕ) (x : X) → slice_get xs i ≡ Some x → Contains (found (n + i) x) f → Contains (found_from found n xs) f
unfolding found_from
at_found found n [] f i x h c = cc
at_found found n (y ∷ xs) f zero x h c =
    let same : x ≡ y = cc in
    let e : n + 0 ≡ n = omega arith in
    Contains-append_left (found n y) (found_from found (n + 1) xs) f (subst (λ z. Contains (found n z) f) same (subst (λ m. Contains (found m x) f) e c))
at_found found n (y ∷ xs) f (suc i) x h c =
    let e : n + suc i ≡ (n + 1) + i = omega arith in
    Contains-append_right (found n y) (found_from found (n + 1) xs) f (at_found found (n + 1) xs f i x h (subst (λ m. Contains (found m x) f) e c))

-- the same from the number 0 on
abbrev pub IsFindingAmong : {X : Type 0} → (ℕ → X → List Finding) → List X → Finding → Type 0
IsFindingAmong {X} found xs f = (i : ℕ) × (x : X) × (slice_get xs i ≡ Some x) × Contains (found i x) f

pub found_at0 : {X : Type 0} (found : ℕ → X → List Finding) (xs : List X) (f : Finding) → Contains (found_from found 0 xs) f → IsFindingAmong found xs f
found_at0 found xs f c =
    let r = found_at_holds found 0 xs f c in
    (r.0, r.1, r.2, subst (λ m. Contains (found m r.1) f) (let e : 0 + r.0 ≡ r.0 = omega arith in e) r.3)

at_found0 : {X : Type 0} (found : ℕ → X → List Finding) (xs : List X) (f : Finding) (i : ℕ) (x : X) → slice_get xs i ≡ Some x → Contains (found i x) f → Contains (found_from found 0 xs) f
at_found0 found xs f i x h c = at_found found 0 xs f i x h (subst (λ m. Contains (found m x) f) (let e : i ≡ 0 + i = omega arith in e) c)

one_item : (g f : Finding) (k : ℕ) → k < 1 → get_or (g ∷ []) k f ≡ f → f ≡ g
one_item g f zero h e = sym e
one_item g f (suc k) h e = absurd (omega arith)

pub only_at : (test : Bool) (g f : Finding) → Contains (only_if test g) f → (test ≡ true) × (f ≡ g)
unfolding only_if
only_at true g f c = (refl, one_item g f c.0 c.1 c.2)
only_at false g f c = absurd (omega (arith, c.1))

at_only : (test : Bool) (g : Finding) → test ≡ true → Contains (only_if test g) g
unfolding only_if
at_only true g h = (0, omega arith, refl)
at_only false g h = absurd (false≢true h)

-- a list that has nothing
pub nothing_in : (xs : List Finding) → ((f : Finding) → Contains xs f → ⊥) → xs ≡ []
nothing_in [] h = refl
nothing_in (x ∷ xs) h = absurd (h x (0, omega arith, refl))

pub in_nothing : (xs : List Finding) (f : Finding) → xs ≡ [] → Contains xs f → ⊥
in_nothing xs f e c = let none : Contains [] f = subst (λ ys. Contains ys f) e c in absurd (omega (arith, none.1))

-- ---- rules

pairs_of : (rule : Rule) (all : List CellConfig) (f : Finding) → Contains (in_pairs rule all) f → OfPair rule all f
unfolding in_pairs from_cell between beside
pairs_of rule all f c =
    let p = found_at0 (from_cell rule all) all f c in
    let q = found_at0 (between rule p.0 p.1) all f p.3 in
    let u = found_at0 (between_at rule p.0 p.1 q.0 q.1) p.1.memory_regions f q.3 in
    let v = found_at0 (beside_at rule (spot p.0 p.1 u.0 u.1) q.0 q.1) q.1.memory_regions f u.3 in
    let w = only_at (pair_breaks rule (spot p.0 p.1 u.0 u.1) (spot q.0 q.1 v.0 v.1)) (finding_of rule p.0 u.0 q.0 v.0) f v.3 in
    record {
      a = p.0;
      b = q.0;
      one = p.1;
      other = q.1;
      r = u.0;
      s = v.0;
      x = u.1;
      y = v.1;
      is_one = p.2;
      is_other = q.2;
      is_x = u.2;
      is_y = v.2;
      breaks = w.0;
      told = w.1;
    }

of_pairs : (rule : Rule) (all : List CellConfig) (f : Finding) → OfPair rule all f → Contains (in_pairs rule all) f
unfolding in_pairs from_cell between beside
of_pairs rule all f p =
    let g = finding_of rule p.a p.r p.b p.s in
    let here : Contains (in_pairs rule all) g =
    at_found0 (from_cell rule all) all g p.a p.one p.is_one (
    at_found0 (between rule p.a p.one) all g p.b p.other p.is_other (
    at_found0 (between_at rule p.a p.one p.b p.other) p.one.memory_regions g p.r p.x p.is_x (
    at_found0 (beside_at rule (spot p.a p.one p.r p.x) p.b p.other) p.other.memory_regions g p.s p.y p.is_y (
    at_only (pair_breaks rule (spot p.a p.one p.r p.x) (spot p.b p.other p.s p.y)) g p.breaks)))) in
    subst (λ h. Contains (in_pairs rule all) h) (sym p.told) here

regions_of : (rule : Rule) (h : Region) (all : List CellConfig) (f : Finding) → Contains (in_regions rule h all) f → OfRegion rule h all f
unfolding in_regions in_cell
regions_of rule h all f c =
    let p = found_at0 (in_regions_at rule h) all f c in
    let u = found_at0 (in_cell_at rule h p.0 p.1.memory_regions) p.1.memory_regions f p.3 in
    let w = only_at (region_breaks rule h p.0 (take u.0 p.1.memory_regions) u.1) (finding_of rule p.0 u.0 0 0) f u.3 in
    record { a = p.0; one = p.1; r = u.0; x = u.1; is_one = p.2; is_x = u.2; breaks = w.0; told = w.1 }

of_regions : (rule : Rule) (h : Region) (all : List CellConfig) (f : Finding) → OfRegion rule h all f → Contains (in_regions rule h all) f
unfolding in_regions in_cell
of_regions rule h all f p =
    let g = finding_of rule p.a p.r 0 0 in
    let here : Contains (in_regions rule h all) g =
    at_found0 (in_regions_at rule h) all g p.a p.one p.is_one (
    at_found0 (in_cell_at rule h p.a p.one.memory_regions) p.one.memory_regions g p.r p.x p.is_x (
    at_only (region_breaks rule h p.a (take p.r p.one.memory_regions) p.x) g p.breaks)) in
    subst (λ h'. Contains (in_regions rule h all) h') (sym p.told) here

memory_of : (rule : Rule) (h : Region) (f : Finding) → Contains (in_hypervisor rule h) f → OfMemory rule h f
unfolding in_hypervisor
memory_of rule h f c = let w = only_at (hypervisor_breaks rule h) (finding_of rule 16 0 0 0) f c in record { breaks = w.0; told = w.1 }

of_memory : (rule : Rule) (h : Region) (f : Finding) → OfMemory rule h f → Contains (in_hypervisor rule h) f
unfolding in_hypervisor
of_memory rule h f p =
    let g = finding_of rule 16 0 0 0 in
    subst (λ h'. Contains (in_hypervisor rule h) h') (sym p.told) (at_only (hypervisor_breaks rule h) g p.breaks)

both_of : (rule : Rule) (h : Region) (all : List CellConfig) (f : Finding) → Contains (in_regions rule h all ++ in_hypervisor rule h) f → OfRegion rule h all f ⊎ OfMemory rule h f
both_of rule h all f c =
    elim (Contains-append_cases (in_regions rule h all) (in_hypervisor rule h) f c) [
      | inl k ↦ inl (regions_of rule h all f k)
      | inr k ↦ inr (memory_of rule h f k)
    ]

of_both : (rule : Rule) (h : Region) (all : List CellConfig) (f : Finding) → OfRegion rule h all f ⊎ OfMemory rule h f → Contains (in_regions rule h all ++ in_hypervisor rule h) f
of_both rule h all f (inl p) = Contains-append_left (in_regions rule h all) (in_hypervisor rule h) f (of_regions rule h all f p)
of_both rule h all f (inr p) = Contains-append_right (in_regions rule h all) (in_hypervisor rule h) f (of_memory rule h f p)

devices_of : (all : List CellConfig) (f : Finding) → Contains (in_devices all) f → OfDevice all f
unfolding in_devices in_devices_of
devices_of all f c =
    let p = found_at0 (in_devices_at all) all f c in
    let u = found_at0 (device_at (take p.0 all) p.0 p.1) p.1.pci_devices f p.3 in
    let w = only_at (device_breaks (take p.0 all) p.1 (take u.0 p.1.pci_devices) u.1) (finding_of Shmem p.0 u.0 0 0) f u.3 in
    record { a = p.0; one = p.1; n = u.0; device = u.1; is_one = p.2; is_device = u.2; breaks = w.0; told = w.1 }

of_devices : (all : List CellConfig) (f : Finding) → OfDevice all f → Contains (in_devices all) f
unfolding in_devices in_devices_of
of_devices all f p =
    let g = finding_of Shmem p.a p.n 0 0 in
    let here : Contains (in_devices all) g =
    at_found0 (in_devices_at all) all g p.a p.one p.is_one (
    at_found0 (device_at (take p.a all) p.a p.one) p.one.pci_devices g p.n p.device p.is_device (
    at_only (device_breaks (take p.a all) p.one (take p.n p.one.pci_devices) p.device) g p.breaks)) in
    subst (λ h. Contains (in_devices all) h) (sym p.told) here

cpus_of : (all : List CellConfig) (f : Finding) → Contains (in_cpus all) f → OfCpus all f
unfolding in_cpus
cpus_of all f c =
    let p = found_at0 in_cpus_at all f c in
    let w = only_at (cpus_break p.1.cpu_set) (finding_of NoCpu p.0 0 0 0) f p.3 in
    record { a = p.0; one = p.1; is_one = p.2; breaks = w.0; told = w.1 }

of_cpus : (all : List CellConfig) (f : Finding) → OfCpus all f → Contains (in_cpus all) f
unfolding in_cpus
of_cpus all f p =
    let g = finding_of NoCpu p.a 0 0 0 in
    let here : Contains (in_cpus all) g = at_found0 in_cpus_at all g p.a p.one p.is_one (at_only (cpus_break p.one.cpu_set) g p.breaks) in
    subst (λ h. Contains (in_cpus all) h) (sym p.told) here

-- ---- all findings

pub found_of : (rule : Rule) (h : Region) (all : List CellConfig) (f : Finding) → Contains (found_by rule h all) f → OfRule rule h all f
unfolding found_by
found_of VirtOverlap h all f c = pairs_of VirtOverlap all f c
found_of PhysOverlap h all f c = pairs_of PhysOverlap all f c
found_of Hypervisor h all f c = regions_of Hypervisor h all f c
found_of OutOfRange h all f c = both_of OutOfRange h all f c
found_of RootNotIdentity h all f c = regions_of RootNotIdentity h all f c
found_of CommInRoot h all f c = regions_of CommInRoot h all f c
found_of CommShape h all f c = regions_of CommShape h all f c
found_of ExecuteWithoutRead h all f c = regions_of ExecuteWithoutRead h all f c
found_of SubpageTaken h all f c = pairs_of SubpageTaken all f c
found_of CellsOverlap h all f c = pairs_of CellsOverlap all f c
found_of Shmem h all f c = devices_of all f c
found_of NoCpu h all f c = cpus_of all f c
found_of PhysAlign h all f c = both_of PhysAlign h all f c

of_found : (rule : Rule) (h : Region) (all : List CellConfig) (f : Finding) → OfRule rule h all f → Contains (found_by rule h all) f
unfolding found_by
of_found VirtOverlap h all f p = of_pairs VirtOverlap all f p
of_found PhysOverlap h all f p = of_pairs PhysOverlap all f p
of_found Hypervisor h all f p = of_regions Hypervisor h all f p
of_found OutOfRange h all f p = of_both OutOfRange h all f p
of_found RootNotIdentity h all f p = of_regions RootNotIdentity h all f p
of_found CommInRoot h all f p = of_regions CommInRoot h all f p
of_found CommShape h all f p = of_regions CommShape h all f p
of_found ExecuteWithoutRead h all f p = of_regions ExecuteWithoutRead h all f p
of_found SubpageTaken h all f p = of_pairs SubpageTaken all f p
of_found CellsOverlap h all f p = of_pairs CellsOverlap all f p
of_found Shmem h all f p = of_devices all f p
of_found NoCpu h all f p = of_cpus all f p
of_found PhysAlign h all f p = of_both PhysAlign h all f p

-- the place of each rule
place : (rule : Rule) → (i : ℕ) × (slice_get rules_in_order i ≡ Some rule)
place VirtOverlap = (0, refl)
place PhysOverlap = (1, refl)
place Hypervisor = (2, refl)
place OutOfRange = (3, refl)
place RootNotIdentity = (4, refl)
place CommInRoot = (5, refl)
place CommShape = (6, refl)
place ExecuteWithoutRead = (7, refl)
place SubpageTaken = (8, refl)
place CellsOverlap = (9, refl)
place Shmem = (10, refl)
place NoCpu = (11, refl)
place PhysAlign = (12, refl)

pub tested_from_listed : (system : SystemConfig) (cells : List CellConfig) (f : Finding) → Contains (findings system cells) f → IsTested system cells f
unfolding findings
tested_from_listed system cells f c =
    let h = system.platform.hypervisor_memory in
    let all = system.root ∷ cells in
    let p = found_at0 (found_at h all) rules_in_order f c in
    record { rule = p.1; by = found_of p.1 h all f p.3 }

pub listed_from_tested : (system : SystemConfig) (cells : List CellConfig) (f : Finding) → IsTested system cells f → Contains (findings system cells) f
unfolding findings
listed_from_tested system cells f b =
    let h = system.platform.hypervisor_memory in
    let all = system.root ∷ cells in
    let p = place b.rule in
    at_found0 (found_at h all) rules_in_order f p.0 b.rule p.1 (of_found b.rule h all f b.by)
