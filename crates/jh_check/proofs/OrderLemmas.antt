-- The list of findings is in strict order.
use Rattle.std.proofs.Common.{◌≡◌, ℕ, ◌+◌, ◌^◌, ◌<◌, ◌≤◌, Bool, true, false, List, [], ◌∷◌, ◌++◌, length, take, get_or, zero, suc, Some, slice_get, refl, sym, ap, subst, ◌⊎◌, inl, inr, ◌∙◌, arith}
use Rattle.std.specs.Prelude.{Contains, AllPairs, map}
use Rattle.std.specs.Option.{option_map}
use Rattle.std.proofs.lemmas.Option.{slice_get_within, slice_get-map}
use Rattle.std.proofs.lemmas.List.Elements.{Contains-append_cases}
use Rattle.std.proofs.lemmas.List.Kept.{AllPairs-cons}
use Rattle.jh_num.proofs.Public.{Contains_head, Contains_tail, read_again}
use Rattle.jh_cellcfg.specs.declared.region.Region.{Region}
use Rattle.jh_cellcfg.specs.declared.config.CellConfig.{CellConfig}
use Rattle.jh_cellcfg.specs.declared.config.SystemConfig.{SystemConfig}
use Rattle.jh_check.specs.declared.finding.Finding.{Finding}
use Rattle.jh_check.specs.declared.rule.Rule.{Rule}
use Rattle.jh_check.specs.declared.rule.Rule.TheVariants.{VirtOverlap, PhysOverlap, Hypervisor, OutOfRange, RootNotIdentity, CommInRoot, CommShape, ExecuteWithoutRead, SubpageTaken, CellsOverlap, Shmem, NoCpu, PhysAlign}
use Rattle.jh_check.specs.Regions.{Spot, pair_breaks, region_breaks, hypervisor_breaks}
use Rattle.jh_check.specs.Devices.{device_breaks, cpus_break}
use Rattle.jh_check.specs.Lists.{found_from, only_if}
use Rattle.jh_check.specs.Findings.{rule_number, spot, finding_of, beside, beside_at, between, between_at, from_cell, in_pairs, in_cell, in_cell_at, in_regions, in_regions_at, in_hypervisor, device_at, in_devices_of, in_devices_at, in_devices, in_cpus_at, in_cpus, found_by, found_at, rules_in_order, findings}
use Rattle.jh_num.specs.Numbers.{item_number}
use Rattle.jh_check.specs.Order.{Precedes, IsCountable}
use Rattle.jh_check.proofs.Tested.{OfRegion, OfMemory, OfRule}
use Rattle.jh_check.proofs.FindingLemmas.{found_at_holds, found_at0, only_at, found_of}

-- ---- lists

-- each precedes all behind it
Ordered : List Finding → Type 0
Ordered [] = Unit {0}
Ordered (x ∷ xs) = ((y : Finding) → Contains xs y → Precedes x y) × Ordered xs

none_in : (f : Finding) → Contains [] f → ⊥
none_in f c = omega (arith, c.1)

ordered_append : (xs ys : List Finding) → Ordered xs → Ordered ys → ((x y : Finding) → Contains xs x → Contains ys y → Precedes x y) → Ordered (xs ++ ys)
unfolding Ordered
ordered_append [] ys o p cross = p
ordered_append (x ∷ xs) ys o p cross = (
  λ y c. elim (Contains-append_cases xs ys y c) [
    | inl k ↦ o.0 y k
    | inr k ↦ cross x y (Contains_head x xs) k
  ],
  ordered_append xs ys o.1 p (λ a b ca cb. cross a b (Contains_tail x xs a ca) cb),
)

-- lists of items in turn
ordered_from : {X : Type 0} (found : ℕ → X → List Finding) (n : ℕ) (xs : List X) → ((i : ℕ) (x : X) → slice_get xs i ≡ Some x → Ordered (found (n + i) x)) → ((i j : ℕ) (x y : X) (f g : Finding) → i < j → slice_get xs i ≡ Some x → slice_get xs j ≡ Some y → Contains (found (n + i) x) f → Contains (found (n + j) y) g → Precedes f g) → Ordered (found_from found n xs)
unfolding found_from Ordered
ordered_from found n [] each cross = tt
ordered_from {X} found n (x ∷ xs) each cross =
    let e0 : n + 0 ≡ n = omega arith in
    let here : Ordered (found n x) = subst (λ m. Ordered (found m x)) e0 (each 0 x refl) in
    let shift = λ (i : ℕ). let e : n + suc i ≡ (n + 1) + i = omega arith in e in
    let later : Ordered (found_from found (n + 1) xs) =
    ordered_from found (n + 1) xs (λ i y h. subst (λ m. Ordered (found m y)) (shift i) (each (suc i) y h)) (λ i j y z f g l h k c d.
    cross (suc i) (suc j) y z f g (omega arith) h k (subst (λ m. Contains (found m y) f) (sym (shift i)) c) (subst (λ m. Contains (found m z) g) (sym (shift j)) d)) in
    ordered_append (found n x) (found_from found (n + 1) xs) here later (λ f g c d.
    let r = found_at_holds found (n + 1) xs g d in
    cross 0 (suc (r.0)) x r.1 f g (omega arith) refl r.2 (subst (λ m. Contains (found m x) f) (sym e0) c) (subst (λ m. Contains (found m r.1) g) (sym (shift r.0)) r.3))

ordered_from0 : {X : Type 0} (found : ℕ → X → List Finding) (xs : List X) → ((i : ℕ) (x : X) → slice_get xs i ≡ Some x → Ordered (found i x)) → ((i j : ℕ) (x y : X) (f g : Finding) → i < j → slice_get xs i ≡ Some x → slice_get xs j ≡ Some y → Contains (found i x) f → Contains (found j y) g → Precedes f g) → Ordered (found_from found 0 xs)
ordered_from0 found xs each cross =
    let zero_less = λ (i : ℕ). let e : 0 + i ≡ i = omega arith in e in
    ordered_from found 0 xs (λ i x h. subst (λ m. Ordered (found m x)) (sym (zero_less i)) (each i x h)) (λ i j x y f g l h k c d.
    cross i j x y f g l h k (subst (λ m. Contains (found m x) f) (zero_less i) c) (subst (λ m. Contains (found m y) g) (zero_less j) d))

ordered_only : (test : Bool) (f : Finding) → Ordered (only_if test f)
unfolding only_if Ordered
ordered_only true f = (λ y c. absurd (none_in y c), tt)
ordered_only false f = tt

pairs_ordered : (xs : List Finding) → Ordered xs → AllPairs Precedes xs
unfolding Ordered
pairs_ordered [] o = λ i j d l k. absurd (omega arith)
pairs_ordered (x ∷ xs) o =
    AllPairs-cons Precedes x xs (λ k d l. o.0 (get_or xs k d) (k, l, sym (read_again xs k d l))) (pairs_ordered xs o.1)

-- ---- two findings

-- the finding is one by the rule, and that cell is its first
record IsOfCell (rule : Rule) (a : ℕ) (f : Finding) : Type 0 where
  by : f.number ≡ rule_number rule
  cell : f.cell ≡ a

-- so, and that cell is its other
record IsOfCells (rule : Rule) (a b : ℕ) (f : Finding) : Type 0 where
  one : IsOfCell rule a f
  other : f.other_cell ≡ b

of_cells : (rule : Rule) (a r b s : ℕ) (f : Finding) → f ≡ finding_of rule a r b s → IsOfCells rule a b f
unfolding finding_of
of_cells rule a r b s f e = record {
  one = record { by = ap (λ (g : Finding). g.number) e; cell = ap (λ (g : Finding). g.cell) e };
  other = ap (λ (g : Finding). g.other_cell) e;
}

of_cell : (rule : Rule) (a r b s : ℕ) (f : Finding) → f ≡ finding_of rule a r b s → IsOfCell rule a f
of_cell rule a r b s f e = (of_cells rule a r b s f e).one

by_cell : (rule : Rule) (a c : ℕ) (f g : Finding) → IsOfCell rule a f → IsOfCell rule c g → a < c → Precedes f g
by_cell rule a c f g p q l =
    let low = p.cell in
    let high = q.cell in
    inr (p.by ∙ sym q.by, inl (omega arith))

by_other : (rule : Rule) (a b c : ℕ) (f g : Finding) → IsOfCells rule a b f → IsOfCells rule a c g → b < c → Precedes f g
by_other rule a b c f g p q l =
    let low = p.other in
    let high = q.other in
    inr (p.one.by ∙ sym q.one.by, inr (p.one.cell ∙ sym q.one.cell, inl (omega arith)))

less_items : (r r' : ℕ) → r < r' → r' < 2 ^ 32 → item_number r < item_number r'
less_items r r' l m = omega arith

by_item : (rule : Rule) (a b r s r' s' : ℕ) (f g : Finding) → f ≡ finding_of rule a r b s → g ≡ finding_of rule a r' b s' → r < r' → r' < 2 ^ 32 → Precedes f g
unfolding finding_of
by_item rule a b r s r' s' f g e e' l m =
    let base : Precedes (finding_of rule a r b s) (finding_of rule a r' b s') = inr (refl, inr (refl, inr (refl, inl (less_items r r' l m)))) in
    subst (λ h. Precedes h g) (sym e) (subst (λ h. Precedes (finding_of rule a r b s) h) (sym e') base)

by_last : (rule : Rule) (a b r s s' : ℕ) (f g : Finding) → f ≡ finding_of rule a r b s → g ≡ finding_of rule a r b s' → s < s' → s' < 2 ^ 32 → Precedes f g
unfolding finding_of
by_last rule a b r s s' f g e e' l m =
    let base : Precedes (finding_of rule a r b s) (finding_of rule a r b s') = inr (refl, inr (refl, inr (refl, inr (refl, less_items s s' l m)))) in
    subst (λ h. Precedes h g) (sym e) (subst (λ h. Precedes (finding_of rule a r b s) h) (sym e') base)

-- ---- rules about two regions

beside_told : (rule : Rule) (one : Spot) (b : ℕ) (other : CellConfig) (f : Finding) → Contains (beside rule one b other) f → (s : ℕ) × (f ≡ finding_of rule one.cell one.item b s)
unfolding beside
beside_told rule one b other f c =
    let p = found_at0 (beside_at rule one b other) other.memory_regions f c in
    (p.0, (only_at (pair_breaks rule one (spot b other p.0 p.1)) (finding_of rule one.cell one.item b p.0) f p.3).1)

between_told : (rule : Rule) (a : ℕ) (one : CellConfig) (b : ℕ) (other : CellConfig) (f : Finding) → Contains (between rule a one b other) f → IsOfCells rule a b f
unfolding between
between_told rule a one b other f c =
    let p = found_at0 (between_at rule a one b other) one.memory_regions f c in
    let q = beside_told rule (spot a one p.0 p.1) b other f p.3 in
    of_cells rule a p.0 b q.0 f q.1

from_told : (rule : Rule) (all : List CellConfig) (a : ℕ) (one : CellConfig) (f : Finding) → Contains (from_cell rule all a one) f → IsOfCell rule a f
unfolding from_cell
from_told rule all a one f c =
    let p = found_at0 (between rule a one) all f c in
    (between_told rule a one p.0 p.1 f p.3).one

-- an index into a list of at most 2^32
small_index : {X : Type 0} (xs : List X) (i : ℕ) (x : X) → length xs ≤ 2 ^ 32 → slice_get xs i ≡ Some x → i < 2 ^ 32
small_index xs i x l h = let k = slice_get_within xs i x h in omega arith

ordered_beside : (rule : Rule) (one : Spot) (b : ℕ) (other : CellConfig) → length other.memory_regions ≤ 2 ^ 32 → Ordered (beside rule one b other)
unfolding beside
ordered_beside rule one b other small =
    ordered_from0 (beside_at rule one b other) other.memory_regions (λ s y h.
    ordered_only (pair_breaks rule one (spot b other s y)) (finding_of rule one.cell one.item b s)) (λ s t y z f g l h k c d.
    by_last rule one.cell b one.item s t f g (only_at (pair_breaks rule one (spot b other s y)) (finding_of rule one.cell one.item b s) f c).1 (only_at (pair_breaks rule one (spot b other t z)) (finding_of rule one.cell one.item b t) g d).1 l (small_index other.memory_regions t z small k))

ordered_between : (rule : Rule) (a : ℕ) (one : CellConfig) (b : ℕ) (other : CellConfig) → length one.memory_regions ≤ 2 ^ 32 → length other.memory_regions ≤ 2 ^ 32 → Ordered (between rule a one b other)
unfolding between
ordered_between rule a one b other small small' =
    ordered_from0 (between_at rule a one b other) one.memory_regions (λ r x h. ordered_beside rule (spot a one r x) b other small') (λ r t x z f g l h k c d.
    let p = beside_told rule (spot a one r x) b other f c in
    let q = beside_told rule (spot a one t z) b other g d in
    by_item rule a b r p.0 t q.0 f g p.1 q.1 l (small_index one.memory_regions t z small k))

ordered_cell : (rule : Rule) (all : List CellConfig) (a : ℕ) (one : CellConfig) → IsCountable all → length one.memory_regions ≤ 2 ^ 32 → Ordered (from_cell rule all a one)
unfolding from_cell
ordered_cell rule all a one count small =
    ordered_from0 (between rule a one) all (λ b other h. ordered_between rule a one b other small (count.regions b other h)) (λ b t other third f g l h k c d.
    by_other rule a b t f g (between_told rule a one b other f c) (between_told rule a one t third g d) l)

ordered_pairs : (rule : Rule) (all : List CellConfig) → IsCountable all → Ordered (in_pairs rule all)
unfolding in_pairs
ordered_pairs rule all count =
    ordered_from0 (from_cell rule all) all (λ a one h. ordered_cell rule all a one count (count.regions a one h)) (λ a t one other f g l h k c d.
    by_cell rule a t f g (from_told rule all a one f c) (from_told rule all t other g d) l)

-- ---- the other rules

cell_told : (rule : Rule) (h : Region) (a : ℕ) (regions : List Region) (f : Finding) → Contains (in_cell rule h a regions) f → IsOfCell rule a f
unfolding in_cell
cell_told rule h a regions f c =
    let p = found_at0 (in_cell_at rule h a regions) regions f c in
    of_cell rule a p.0 0 0 f (only_at (region_breaks rule h a (take p.0 regions) p.1) (finding_of rule a p.0 0 0) f p.3).1

ordered_regions_of : (rule : Rule) (h : Region) (a : ℕ) (regions : List Region) → length regions ≤ 2 ^ 32 → Ordered (in_cell rule h a regions)
unfolding in_cell
ordered_regions_of rule h a regions small =
    ordered_from0 (in_cell_at rule h a regions) regions (λ r x e. ordered_only (region_breaks rule h a (take r regions) x) (finding_of rule a r 0 0)) (λ r t x y f g l i k c d.
    by_item rule a 0 r 0 t 0 f g (only_at (region_breaks rule h a (take r regions) x) (finding_of rule a r 0 0) f c).1 (only_at (region_breaks rule h a (take t regions) y) (finding_of rule a t 0 0) g d).1 l (small_index regions t y small k))

ordered_regions : (rule : Rule) (h : Region) (all : List CellConfig) → IsCountable all → Ordered (in_regions rule h all)
unfolding in_regions
ordered_regions rule h all count =
    ordered_from0 (in_regions_at rule h) all (λ a cell e. ordered_regions_of rule h a cell.memory_regions (count.regions a cell e)) (λ a t one other f g l i k c d.
    by_cell rule a t f g (cell_told rule h a one.memory_regions f c) (cell_told rule h t other.memory_regions g d) l)

-- the hypervisor's memory comes behind the regions of at most 16 cells
ordered_both : (rule : Rule) (h : Region) (all : List CellConfig) → IsCountable all → Ordered (in_regions rule h all ++ in_hypervisor rule h)
unfolding in_regions in_hypervisor
ordered_both rule h all count =
    ordered_append (in_regions rule h all) (in_hypervisor rule h) (ordered_regions rule h all count) (ordered_only (hypervisor_breaks rule h) (finding_of rule 16 0 0 0)) (λ f g c d.
    let p = found_at0 (in_regions_at rule h) all f c in
    let last = of_cell rule 16 0 0 0 g (only_at (hypervisor_breaks rule h) (finding_of rule 16 0 0 0) g d).1 in
    let few = count.cells in
    let within = slice_get_within all p.0 p.1 p.2 in
    by_cell rule p.0 16 f g (cell_told rule h p.0 p.1.memory_regions f p.3) last (omega arith))

devices_told : (lower : List CellConfig) (a : ℕ) (cell : CellConfig) (f : Finding) → Contains (in_devices_of lower a cell) f → IsOfCell Shmem a f
unfolding in_devices_of
devices_told lower a cell f c =
    let p = found_at0 (device_at lower a cell) cell.pci_devices f c in
    of_cell Shmem a p.0 0 0 f (only_at (device_breaks lower cell (take p.0 cell.pci_devices) p.1) (finding_of Shmem a p.0 0 0) f p.3).1

ordered_devices_of : (lower : List CellConfig) (a : ℕ) (cell : CellConfig) → length cell.pci_devices ≤ 2 ^ 32 → Ordered (in_devices_of lower a cell)
unfolding in_devices_of
ordered_devices_of lower a cell small =
    ordered_from0 (device_at lower a cell) cell.pci_devices (λ n d e. ordered_only (device_breaks lower cell (take n cell.pci_devices) d) (finding_of Shmem a n 0 0)) (λ n t d d' f g l i k c c'.
    by_item Shmem a 0 n 0 t 0 f g (only_at (device_breaks lower cell (take n cell.pci_devices) d) (finding_of Shmem a n 0 0) f c).1 (only_at (device_breaks lower cell (take t cell.pci_devices) d') (finding_of Shmem a t 0 0) g c').1 l (small_index cell.pci_devices t d' small k))

ordered_devices : (all : List CellConfig) → IsCountable all → Ordered (in_devices all)
unfolding in_devices
ordered_devices all count =
    ordered_from0 (in_devices_at all) all (λ a cell e. ordered_devices_of (take a all) a cell (count.devices a cell e)) (λ a t one other f g l i k c d.
    by_cell Shmem a t f g (devices_told (take a all) a one f c) (devices_told (take t all) t other g d) l)

ordered_cpus : (all : List CellConfig) → Ordered (in_cpus all)
unfolding in_cpus
ordered_cpus all =
    ordered_from0 in_cpus_at all (λ a cell e. ordered_only (cpus_break cell.cpu_set) (finding_of NoCpu a 0 0 0)) (λ a t one other f g l i k c d.
    let p = of_cell NoCpu a 0 0 0 f (only_at (cpus_break one.cpu_set) (finding_of NoCpu a 0 0 0) f c).1 in
    let q = of_cell NoCpu t 0 0 0 g (only_at (cpus_break other.cpu_set) (finding_of NoCpu t 0 0 0) g d).1 in
    by_cell NoCpu a t f g p q l)

-- ---- all findings

ordered_by : (rule : Rule) (h : Region) (all : List CellConfig) → IsCountable all → Ordered (found_by rule h all)
unfolding found_by
ordered_by VirtOverlap h all count = ordered_pairs VirtOverlap all count
ordered_by PhysOverlap h all count = ordered_pairs PhysOverlap all count
ordered_by Hypervisor h all count = ordered_regions Hypervisor h all count
ordered_by OutOfRange h all count = ordered_both OutOfRange h all count
ordered_by RootNotIdentity h all count = ordered_regions RootNotIdentity h all count
ordered_by CommInRoot h all count = ordered_regions CommInRoot h all count
ordered_by CommShape h all count = ordered_regions CommShape h all count
ordered_by ExecuteWithoutRead h all count = ordered_regions ExecuteWithoutRead h all count
ordered_by SubpageTaken h all count = ordered_pairs SubpageTaken all count
ordered_by CellsOverlap h all count = ordered_pairs CellsOverlap all count
ordered_by Shmem h all count = ordered_devices all count
ordered_by NoCpu h all count = ordered_cpus all
ordered_by PhysAlign h all count = ordered_both PhysAlign h all count

numbered : (rule : Rule) (a r b s : ℕ) (f : Finding) → f ≡ finding_of rule a r b s → f.number ≡ rule_number rule
numbered rule a r b s f e = (of_cell rule a r b s f e).by

both_numbered : (rule : Rule) (h : Region) (all : List CellConfig) (f : Finding) → OfRegion rule h all f ⊎ OfMemory rule h f → f.number ≡ rule_number rule
both_numbered rule h all f (inl p) = numbered rule p.a p.r 0 0 f p.told
both_numbered rule h all f (inr p) = numbered rule 16 0 0 0 f p.told

rule_numbered : (rule : Rule) (h : Region) (all : List CellConfig) (f : Finding) → OfRule rule h all f → f.number ≡ rule_number rule
rule_numbered VirtOverlap h all f p = numbered VirtOverlap p.a p.r p.b p.s f p.told
rule_numbered PhysOverlap h all f p = numbered PhysOverlap p.a p.r p.b p.s f p.told
rule_numbered Hypervisor h all f p = numbered Hypervisor p.a p.r 0 0 f p.told
rule_numbered OutOfRange h all f p = both_numbered OutOfRange h all f p
rule_numbered RootNotIdentity h all f p = numbered RootNotIdentity p.a p.r 0 0 f p.told
rule_numbered CommInRoot h all f p = numbered CommInRoot p.a p.r 0 0 f p.told
rule_numbered CommShape h all f p = numbered CommShape p.a p.r 0 0 f p.told
rule_numbered ExecuteWithoutRead h all f p = numbered ExecuteWithoutRead p.a p.r 0 0 f p.told
rule_numbered SubpageTaken h all f p = numbered SubpageTaken p.a p.r p.b p.s f p.told
rule_numbered CellsOverlap h all f p = numbered CellsOverlap p.a p.r p.b p.s f p.told
rule_numbered Shmem h all f p = numbered Shmem p.a p.n 0 0 f p.told
rule_numbered NoCpu h all f p = numbered NoCpu p.a 0 0 0 f p.told
rule_numbered PhysAlign h all f p = both_numbered PhysAlign h all f p

-- so many numbers, from that one on
numbers : ℕ → ℕ → List ℕ
numbers n zero = []
numbers n (suc k) = n ∷ numbers (n + 1) k

number_at : (n k i m : ℕ) → slice_get (numbers n k) i ≡ Some m → m ≡ n + i
unfolding numbers
number_at n zero i m h = cc
number_at n (suc k) zero m h = let e : n ≡ m = cc in omega arith
number_at n (suc k) (suc i) m h = let e = number_at (n + 1) k i m h in omega arith

-- the rule at an index has the next number
rule_at : (i : ℕ) (rule : Rule) → slice_get rules_in_order i ≡ Some rule → rule_number rule ≡ 1 + i
unfolding numbers
rule_at i rule h =
    let e : map rule_number rules_in_order ≡ numbers 1 13 = refl in
    number_at 1 13 i (rule_number rule) (ap (λ ns. slice_get ns i) (sym e) ∙ slice_get-map rule_number rules_in_order i ∙ ap (option_map rule_number) h)

pub findings_ordered : (system : SystemConfig) (cells : List CellConfig) → IsCountable (system.root ∷ cells) → AllPairs Precedes (findings system cells)
unfolding findings
findings_ordered system cells count =
    let h = system.platform.hypervisor_memory in
    let all = system.root ∷ cells in
    pairs_ordered (findings system cells) (
    ordered_from0 (found_at h all) rules_in_order (λ i rule e. ordered_by rule h all count) (λ i j one other f g l e k c d.
    let p = rule_numbered one h all f (found_of one h all f c) in
    let q = rule_numbered other h all g (found_of other h all g d) in
    let m = rule_at i one e in
    let n = rule_at j other k in
    let less : f.number < g.number = omega arith in
    inl less))
