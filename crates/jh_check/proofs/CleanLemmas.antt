-- Where no rule about regions or the hypervisor's memory is broken, and what that says in the rule's own words.
use Rattle.std.proofs.Common.{◌≡◌, ℕ, ◌+◌, ◌-◌, ◌%◌, ◌<◌, ◌≤◌, Bool, true, false, ◌&&◌, ◌||◌, not, ◌==◌, nat_lt, nat_le, List, [], ◌∷◌, take, zero, suc, Some, slice_get, refl, sym, subst, inl, inr, arith}
use Rattle.std.specs.List.{list_any}
use Rattle.std.proofs.lemmas.Bool.{false≢true, ltb-true, ltb-false, leb-true, lt-ltb, le-ltb, le-leb, eqb-true, eq-eqb, ne_eqb, cases_lt, cases_order, and_parts, and_from, or_cases, or_parts, or_left, or_right, not-true, not-false, not_from_false, false_from_ne_true, both_ways, true_from_ne_false}
use Rattle.jh_num.specs.declared.address.TheConstants.{ADDRESS_END, PAGE_SIZE}
use Rattle.jh_num.proofs.Public.{same_number}
use Rattle.jh_cellcfg.specs.declared.region.Region.{Region}
use Rattle.jh_cellcfg.specs.declared.config.PciDevice.{PciDevice}
use Rattle.jh_cellcfg.specs.declared.config.CellConfig.{CellConfig}
use Rattle.jh_cellcfg.specs.declared.config.SystemConfig.{SystemConfig}
use Rattle.jh_cellcfg.specs.Regions.{has_flags, virt_end, phys_end, has_address, has_place, is_page_mapped, is_comm, is_unshared, has_size, virt_meet, phys_meet, IsInRange}
use Rattle.jh_check.specs.declared.rule.Rule.{Rule}
use Rattle.jh_check.specs.declared.rule.Rule.TheVariants.{VirtOverlap, PhysOverlap, Hypervisor, OutOfRange, RootNotIdentity, CommInRoot, CommShape, ExecuteWithoutRead, SubpageTaken, CellsOverlap, PhysAlign}
use Rattle.jh_check.specs.Regions.{pair_breaks, region_breaks, breaks_alone, hypervisor_breaks, share_places, takes_pages, both_shared, is_counted_comm, is_misshapen}
use Rattle.jh_check.specs.Devices.{are_same_section, are_sections_of, are_linked, is_section, section_count}
use Rattle.jh_check.specs.Findings.{spot}
use Rattle.jh_check.specs.Laws.{IsNumbered, IsItem, AddressesAreSingle, HypervisorIsAlone}
use Rattle.jh_check.specs.Clean.{PlacesAreSingle, EachRegion, IsReadIfExecuted, IsAligned, IsSoundMemory, RootIsIdentity, RootHasNoComm, CommsArePages, RootKeepsItsPages, IsSameSection, CellsShareAsTheySay}
use Rattle.jh_check.proofs.BreakLemmas.{share_parts, within_parts}

-- ---- tests

-- where both don't hold and the first does, the second doesn't
pub and_rest : (a b : Bool) → ((a && b) ≡ true → ⊥) → a ≡ true → b ≡ false
and_rest a b h t = false_from_ne_true b (λ u. h (and_from a b t u))

pub positive : (a : ℕ) → not (a == 0) ≡ true → 0 < a
positive zero h = absurd (false≢true h)
positive (suc n) h = omega arith

pub not_zero : (a : ℕ) → 0 < a → not (a == 0) ≡ true
not_zero a h = not_from_false (a == 0) (ne_eqb a 0 (λ e. omega arith))

-- ---- lists by number

pub same_item : {X : Type 0} (xs : List X) (i j : ℕ) (x y : X) → i ≡ j → slice_get xs i ≡ Some x → slice_get xs j ≡ Some y → x ≡ y
same_item xs i j x y e h k =
    let k' : slice_get xs i ≡ Some y = subst (λ m. slice_get xs m ≡ Some y) (sym e) k in
    cc

pub get_take : {X : Type 0} (n : ℕ) (xs : List X) (i : ℕ) (x : X) → slice_get (take n xs) i ≡ Some x → (i < n) × (slice_get xs i ≡ Some x)
get_take zero xs i x h = cc
get_take (suc n) [] i x h = cc
get_take (suc n) (y ∷ xs) zero x h = (omega arith, h)
get_take (suc n) (y ∷ xs) (suc i) x h = let r = get_take n xs i x h in (omega (arith, r.0), r.1)

pub take_get : {X : Type 0} (n : ℕ) (xs : List X) (i : ℕ) (x : X) → i < n → slice_get xs i ≡ Some x → slice_get (take n xs) i ≡ Some x
take_get zero xs i x l h = absurd (omega arith)
take_get (suc n) [] i x l h = h
take_get (suc n) (y ∷ xs) zero x l h = h
take_get (suc n) (y ∷ xs) (suc i) x l h = take_get n xs i x (omega arith) h

-- an element that passes
pub any_at : {X : Type 0} (p : X → Bool) (xs : List X) (i : ℕ) (x : X) → slice_get xs i ≡ Some x → p x ≡ true → list_any p xs ≡ true
any_at p [] i x h t = cc
any_at p (y ∷ xs) zero x h t =
    let e : x ≡ y = cc in
    or_left (p y) (list_any p xs) (subst (λ z. p z ≡ true) e t)
any_at p (y ∷ xs) (suc i) x h t = or_right (p y) (list_any p xs) (any_at p xs i x h t)

pub any_of : {X : Type 0} (p : X → Bool) (xs : List X) → list_any p xs ≡ true → (i : ℕ) × (x : X) × (slice_get xs i ≡ Some x) × (p x ≡ true)
any_of p [] h = absurd (false≢true h)
any_of p (y ∷ xs) h =
    elim (or_cases (p y) (list_any p xs) h) [
      | inl t ↦ (0, y, refl, t)
      | inr k ↦ let r = any_of p xs k in (suc (r.0), r.1, r.2, r.3)
    ]

-- ---- ranges

-- two ranges with a number in common
ranges_meet : (a n b m at : ℕ) → (nat_le a at && nat_lt at (a + n)) ≡ true → (nat_le b at && nat_lt at (b + m)) ≡ true → ((nat_lt 0 n && nat_lt 0 m) && (nat_lt a (b + m) && nat_lt b (a + n))) ≡ true
ranges_meet a n b m at h k =
    let p = and_parts (nat_le a at) (nat_lt at (a + n)) h in
    let q = and_parts (nat_le b at) (nat_lt at (b + m)) k in
    let p0 = leb-true a at p.0 in
    let p1 = ltb-true at (a + n) p.1 in
    let q0 = leb-true b at q.0 in
    let q1 = ltb-true at (b + m) q.1 in
    and_from (nat_lt 0 n && nat_lt 0 m) (nat_lt a (b + m) && nat_lt b (a + n)) (and_from (nat_lt 0 n) (nat_lt 0 m) (lt-ltb 0 n (omega arith)) (lt-ltb 0 m (omega arith))) (and_from (nat_lt a (b + m)) (nat_lt b (a + n)) (lt-ltb a (b + m) (omega arith)) (lt-ltb b (a + n) (omega arith)))

in_range : (a n at : ℕ) → a ≤ at → at < a + n → (nat_le a at && nat_lt at (a + n)) ≡ true
in_range a n at h k = and_from (nat_le a at) (nat_lt at (a + n)) (le-leb a at h) (lt-ltb at (a + n) k)

meeting_ranges : (a n b m : ℕ) → ((nat_lt 0 n && nat_lt 0 m) && (nat_lt a (b + m) && nat_lt b (a + n))) ≡ true → (at : ℕ) × ((nat_le a at && nat_lt at (a + n)) ≡ true) × ((nat_le b at && nat_lt at (b + m)) ≡ true)
meeting_ranges a n b m h =
    let p = and_parts (nat_lt 0 n && nat_lt 0 m) (nat_lt a (b + m) && nat_lt b (a + n)) h in
    let q = and_parts (nat_lt 0 n) (nat_lt 0 m) p.0 in
    let r = and_parts (nat_lt a (b + m)) (nat_lt b (a + n)) p.1 in
    let q0 = ltb-true 0 n q.0 in
    let q1 = ltb-true 0 m q.1 in
    let r0 = ltb-true a (b + m) r.0 in
    let r1 = ltb-true b (a + n) r.1 in
    elim (cases_lt a b) [
      | inl l ↦ (b, in_range a n b (omega arith) r1, in_range b m b (omega arith) (omega arith))
      | inr l ↦ (a, in_range a n a (omega arith) (omega arith), in_range b m a l r0)
    ]

pub virt_common : (x y : Region) (at : ℕ) → has_address x at ≡ true → has_address y at ≡ true → virt_meet x y ≡ true
virt_common x y at h k = ranges_meet x.virt_start x.size y.virt_start y.size at h k

pub phys_common : (x y : Region) (at : ℕ) → has_place x at ≡ true → has_place y at ≡ true → phys_meet x y ≡ true
phys_common x y at h k = ranges_meet x.phys_start x.size y.phys_start y.size at h k

pub common_virt : (x y : Region) → virt_meet x y ≡ true → (at : ℕ) × (has_address x at ≡ true) × (has_address y at ≡ true)
common_virt x y h = meeting_ranges x.virt_start x.size y.virt_start y.size h

pub common_phys : (x y : Region) → phys_meet x y ≡ true → (at : ℕ) × (has_place x at ≡ true) × (has_place y at ≡ true)
common_phys x y h = meeting_ranges x.phys_start x.size y.phys_start y.size h

pub place_size : (x : Region) (place : ℕ) → has_place x place ≡ true → has_size x ≡ true
place_size x place h =
    let p = and_parts (nat_le x.phys_start place) (nat_lt place (phys_end x)) h in
    let p0 = leb-true x.phys_start place p.0 in
    let p1 = ltb-true place (phys_end x) p.1 in
    lt-ltb 0 x.size (omega arith)

-- ---- rules that nothing breaks

abbrev pub PairsHold : Rule → List CellConfig → Type 0
PairsHold rule all =
    (a b : ℕ) (one other : CellConfig) (r s : ℕ) (x y : Region) → slice_get all a ≡ Some one → slice_get all b ≡ Some other → slice_get one.memory_regions r ≡ Some x → slice_get other.memory_regions s ≡ Some y → pair_breaks rule (spot a one r x) (spot b other s y) ≡ true → ⊥

abbrev pub RegionsHold : Rule → Region → List CellConfig → Type 0
RegionsHold rule h all =
    (a : ℕ) (one : CellConfig) (r : ℕ) (x : Region) → slice_get all a ≡ Some one → slice_get one.memory_regions r ≡ Some x → region_breaks rule h a (take r one.memory_regions) x ≡ true → ⊥

-- a region that isn't empty breaks no rule
alone : (rule : Rule) (h : Region) (all : List CellConfig) → RegionsHold rule h all → (a : ℕ) (one : CellConfig) (r : ℕ) (x : Region) → slice_get all a ≡ Some one → slice_get one.memory_regions r ≡ Some x → 0 < x.size → breaks_alone rule h a (take r one.memory_regions) x ≡ false
unfolding region_breaks
alone rule h all k a one r x na ir some =
    and_rest (has_size x) (breaks_alone rule h a (take r one.memory_regions) x) (k a one r x na ir) (lt-ltb 0 x.size some)

-- a region that breaks a rule isn't empty
parts : (rule : Rule) (h : Region) (a : ℕ) (earlier : List Region) (x : Region) → region_breaks rule h a earlier x ≡ true → (0 < x.size) × (breaks_alone rule h a earlier x ≡ true)
unfolding region_breaks
parts rule h a earlier x t = let p = and_parts (has_size x) (breaks_alone rule h a earlier x) t in (ltb-true 0 x.size p.0, p.1)

-- ---- two regions of one cell

within : (a r s : ℕ) (rest : Bool) → r < s → rest ≡ true → ((a == a) && (nat_lt r s && rest)) ≡ true
within a r s rest l t = and_from (a == a) (nat_lt r s && rest) (same_number a) (and_from (nat_lt r s) rest (lt-ltb r s l) t)

pub addresses_from : (system : SystemConfig) (cells : List CellConfig) → PairsHold VirtOverlap (system.root ∷ cells) → AddressesAreSingle system cells
unfolding pair_breaks
addresses_from system cells h a cell n r s x y ir is at hx hy =
    elim (cases_order r s) [
      | inl same ↦ same
      | inr (inl l) ↦ absurd (h a a cell cell r s x y n n ir is (within a r s (virt_meet x y) l (virt_common x y at hx hy)))
      | inr (inr l) ↦ absurd (h a a cell cell s r y x n n is ir (within a s r (virt_meet y x) l (virt_common y x at hy hx)))
    ]

pub addresses_to : (system : SystemConfig) (cells : List CellConfig) → AddressesAreSingle system cells → PairsHold VirtOverlap (system.root ∷ cells)
unfolding pair_breaks
addresses_to system cells h a b one other r s x y na nb ir is t =
    let p = within_parts (spot a one r x) (spot b other s y) (virt_meet x y) t in
    let same : one ≡ other = same_item (system.root ∷ cells) a b one other (eqb-true a b p.0) na nb in
    let iy : slice_get one.memory_regions s ≡ Some y = subst (λ (c : CellConfig). slice_get c.memory_regions s ≡ Some y) (sym same) is in
    let m = common_virt x y p.2 in
    let k : r ≡ s = h a one na r s x y ir iy m.0 m.1 m.2 in
    let l : r < s = ltb-true r s p.1 in
    omega arith

pub shared : (x y : Region) → is_comm x ≡ false → is_comm y ≡ false → phys_meet x y ≡ true → share_places x y ≡ true
shared x y cx cy t = and_from (not (is_comm x)) (not (is_comm y) && phys_meet x y) (not_from_false (is_comm x) cx) (and_from (not (is_comm y)) (phys_meet x y) (not_from_false (is_comm y) cy) t)

pub places_from : (system : SystemConfig) (cells : List CellConfig) → PairsHold PhysOverlap (system.root ∷ cells) → PlacesAreSingle system cells
unfolding pair_breaks
places_from system cells h a cell n r s x y ir is cx cy at hx hy =
    elim (cases_order r s) [
      | inl same ↦ same
      | inr (inl l) ↦ absurd (h a a cell cell r s x y n n ir is (within a r s (share_places x y) l (shared x y cx cy (phys_common x y at hx hy))))
      | inr (inr l) ↦ absurd (h a a cell cell s r y x n n is ir (within a s r (share_places y x) l (shared y x cy cx (phys_common y x at hy hx))))
    ]

pub places_to : (system : SystemConfig) (cells : List CellConfig) → PlacesAreSingle system cells → PairsHold PhysOverlap (system.root ∷ cells)
unfolding pair_breaks
places_to system cells h a b one other r s x y na nb ir is t =
    let p = within_parts (spot a one r x) (spot b other s y) (share_places x y) t in
    let same : one ≡ other = same_item (system.root ∷ cells) a b one other (eqb-true a b p.0) na nb in
    let iy : slice_get one.memory_regions s ≡ Some y = subst (λ (c : CellConfig). slice_get c.memory_regions s ≡ Some y) (sym same) is in
    let q = share_parts x y p.2 in
    let m = common_phys x y q.2 in
    let k : r ≡ s = h a one na r s x y ir iy (not-true (is_comm x) q.0) (not-true (is_comm y) q.1) m.0 m.1 m.2 in
    let l : r < s = ltb-true r s p.1 in
    omega arith

-- ---- the hypervisor's memory

pub hypervisor_from : (system : SystemConfig) (cells : List CellConfig) → RegionsHold Hypervisor system.platform.hypervisor_memory (system.root ∷ cells) → HypervisorIsAlone system cells
unfolding region_breaks
hypervisor_from system cells k a cell n r x i comm place hx hh =
    let h = system.platform.hypervisor_memory in
    k a cell r x n i (and_from (has_size x) (not (is_comm x) && phys_meet x h) (place_size x place hx) (and_from (not (is_comm x)) (phys_meet x h) (not_from_false (is_comm x) comm) (phys_common x h place hx hh)))

pub hypervisor_to : (system : SystemConfig) (cells : List CellConfig) → HypervisorIsAlone system cells → RegionsHold Hypervisor system.platform.hypervisor_memory (system.root ∷ cells)
hypervisor_to system cells k a cell r x n i t =
    let h = system.platform.hypervisor_memory in
    let p = parts Hypervisor h a (take r cell.memory_regions) x t in
    let q = and_parts (not (is_comm x)) (phys_meet x h) p.1 in
    let m = common_phys x h q.1 in
    k a cell n r x i (not-true (is_comm x) q.0) m.0 m.1 m.2

pub memory_from : (h : Region) → (hypervisor_breaks OutOfRange h ≡ true → ⊥) → (hypervisor_breaks PhysAlign h ≡ true → ⊥) → IsSoundMemory h
unfolding hypervisor_breaks
memory_from h range align =
    let far = nat_lt ADDRESS_END (phys_end h) in
    let big = nat_lt 0x4000000 h.size in
    let p = or_parts (h.size == 0) (big || far) (false_from_ne_true ((h.size == 0) || (big || far)) range) in
    let q = or_parts big far p.1 in
    let some : 0 < h.size = positive h.size (not_from_false (h.size == 0) p.0) in
    let few : h.size ≤ 0x4000000 = ltb-false 0x4000000 h.size q.0 in
    let one = not (h.phys_start % PAGE_SIZE == 0) in
    let two = not (h.size % PAGE_SIZE == 0) in
    let u = or_parts one two (and_rest (has_size h) (one || two) align (lt-ltb 0 h.size some)) in
    record {
      some = some;
      few = few;
      within = ltb-false ADDRESS_END (phys_end h) q.1;
      aligned = eqb-true (h.phys_start % PAGE_SIZE) 0 (not-false (h.phys_start % PAGE_SIZE == 0) u.0);
      whole = eqb-true (h.size % PAGE_SIZE) 0 (not-false (h.size % PAGE_SIZE == 0) u.1);
    }

pub memory_range : (h : Region) → IsSoundMemory h → hypervisor_breaks OutOfRange h ≡ true → ⊥
unfolding hypervisor_breaks
memory_range h m t =
    let far = nat_lt ADDRESS_END (phys_end h) in
    let big = nat_lt 0x4000000 h.size in
    let some : 0 < h.size = m.some in
    let few : h.size ≤ 0x4000000 = m.few in
    let near : phys_end h ≤ ADDRESS_END = m.within in
    elim (or_cases (h.size == 0) (big || far) t) [
      | inl e ↦ let z = eqb-true h.size 0 e in omega arith
      | inr k ↦ elim (or_cases big far k) [
        | inl e ↦ let z = ltb-true 0x4000000 h.size e in omega arith
        | inr e ↦ both_ways far (le-ltb ADDRESS_END (phys_end h) near) e
      ]
    ]

pub memory_align : (h : Region) → IsSoundMemory h → hypervisor_breaks PhysAlign h ≡ true → ⊥
unfolding hypervisor_breaks
memory_align h m t =
    let one = h.phys_start % PAGE_SIZE == 0 in
    let two = h.size % PAGE_SIZE == 0 in
    let p = and_parts (has_size h) (not one || not two) t in
    elim (or_cases (not one) (not two) p.1) [
      | inl e ↦ both_ways one (not-true one e) (eq-eqb (h.phys_start % PAGE_SIZE) 0 m.aligned)
      | inr e ↦ both_ways two (not-true two e) (eq-eqb (h.size % PAGE_SIZE) 0 m.whole)
    ]

-- ---- one region

pub within_from : (system : SystemConfig) (cells : List CellConfig) → RegionsHold OutOfRange system.platform.hypervisor_memory (system.root ∷ cells) → EachRegion system cells IsInRange
within_from system cells k a cell n r x i some =
    let f = alone OutOfRange system.platform.hypervisor_memory (system.root ∷ cells) k a cell r x n i some in
    let far = nat_lt ADDRESS_END (phys_end x) in
    let p = or_parts (nat_lt ADDRESS_END (virt_end x)) (not (is_comm x) && far) f in
    record {
      virt = ltb-false ADDRESS_END (virt_end x) p.0;
      phys = λ c. ltb-false ADDRESS_END (phys_end x) (and_rest (not (is_comm x)) far (λ t. both_ways (not (is_comm x) && far) p.1 t) (not_from_false (is_comm x) c));
    }

pub within_to : (system : SystemConfig) (cells : List CellConfig) → EachRegion system cells IsInRange → RegionsHold OutOfRange system.platform.hypervisor_memory (system.root ∷ cells)
within_to system cells k a cell r x n i t =
    let p = parts OutOfRange system.platform.hypervisor_memory a (take r cell.memory_regions) x t in
    let w = k a cell n r x i p.0 in
    let near = nat_lt ADDRESS_END (virt_end x) in
    let far = nat_lt ADDRESS_END (phys_end x) in
    elim (or_cases near (not (is_comm x) && far) p.1) [
      | inl e ↦ both_ways near (le-ltb ADDRESS_END (virt_end x) w.virt) e
      | inr e ↦
          let q = and_parts (not (is_comm x)) far e in
          both_ways far (le-ltb ADDRESS_END (phys_end x) (w.phys (not-true (is_comm x) q.0))) q.1
    ]

pub readable_from : (system : SystemConfig) (cells : List CellConfig) → RegionsHold ExecuteWithoutRead system.platform.hypervisor_memory (system.root ∷ cells) → EachRegion system cells IsReadIfExecuted
readable_from system cells k a cell n r x i some e =
    let f = alone ExecuteWithoutRead system.platform.hypervisor_memory (system.root ∷ cells) k a cell r x n i some in
    not-false (has_flags 0x1 x) (and_rest (has_flags 0x4 x) (not (has_flags 0x1 x)) (λ t. both_ways (has_flags 0x4 x && not (has_flags 0x1 x)) f t) e)

pub readable_to : (system : SystemConfig) (cells : List CellConfig) → EachRegion system cells IsReadIfExecuted → RegionsHold ExecuteWithoutRead system.platform.hypervisor_memory (system.root ∷ cells)
readable_to system cells k a cell r x n i t =
    let p = parts ExecuteWithoutRead system.platform.hypervisor_memory a (take r cell.memory_regions) x t in
    let q = and_parts (has_flags 0x4 x) (not (has_flags 0x1 x)) p.1 in
    both_ways (has_flags 0x1 x) (not-true (has_flags 0x1 x) q.1) (k a cell n r x i p.0 q.0)

pub aligned_from : (system : SystemConfig) (cells : List CellConfig) → RegionsHold PhysAlign system.platform.hypervisor_memory (system.root ∷ cells) → EachRegion system cells IsAligned
aligned_from system cells k a cell n r x i some mapped comm =
    let f = alone PhysAlign system.platform.hypervisor_memory (system.root ∷ cells) k a cell r x n i some in
    let even = x.phys_start % PAGE_SIZE == 0 in
    let rest = not (is_comm x) && not even in
    let g = and_rest (is_page_mapped x) rest (λ t. both_ways (is_page_mapped x && rest) f t) mapped in
    let l = and_rest (not (is_comm x)) (not even) (λ t. both_ways rest g t) (not_from_false (is_comm x) comm) in
    eqb-true (x.phys_start % PAGE_SIZE) 0 (not-false even l)

pub aligned_to : (system : SystemConfig) (cells : List CellConfig) → EachRegion system cells IsAligned → RegionsHold PhysAlign system.platform.hypervisor_memory (system.root ∷ cells)
aligned_to system cells k a cell r x n i t =
    let p = parts PhysAlign system.platform.hypervisor_memory a (take r cell.memory_regions) x t in
    let even = x.phys_start % PAGE_SIZE == 0 in
    let q = and_parts (is_page_mapped x) (not (is_comm x) && not even) p.1 in
    let u = and_parts (not (is_comm x)) (not even) q.1 in
    both_ways even (not-true even u.1) (eq-eqb (x.phys_start % PAGE_SIZE) 0 (k a cell n r x i p.0 q.0 (not-true (is_comm x) u.0)))

-- ---- root

-- the cell of the number 0 is root
root_of : (system : SystemConfig) (cells : List CellConfig) (a : ℕ) (cell : CellConfig) → a ≡ 0 → slice_get (system.root ∷ cells) a ≡ Some cell → system.root ≡ cell
root_of system cells a cell e n = same_item (system.root ∷ cells) 0 a system.root cell (sym e) refl n

pub identity_from : (system : SystemConfig) (cells : List CellConfig) → RegionsHold RootNotIdentity system.platform.hypervisor_memory (system.root ∷ cells) → RootIsIdentity system
identity_from system cells k r x i some =
    let f = alone RootNotIdentity system.platform.hypervisor_memory (system.root ∷ cells) k 0 system.root r x refl i some in
    eqb-true x.phys_start x.virt_start (not-false (x.phys_start == x.virt_start) f)

pub identity_to : (system : SystemConfig) (cells : List CellConfig) → RootIsIdentity system → RegionsHold RootNotIdentity system.platform.hypervisor_memory (system.root ∷ cells)
identity_to system cells k a cell r x n i t =
    let p = parts RootNotIdentity system.platform.hypervisor_memory a (take r cell.memory_regions) x t in
    let q = and_parts (a == 0) (not (x.phys_start == x.virt_start)) p.1 in
    let e = root_of system cells a cell (eqb-true a 0 q.0) n in
    let i' : IsItem system.root r x = subst (λ (c : CellConfig). IsItem c r x) (sym e) i in
    both_ways (x.phys_start == x.virt_start) (not-true (x.phys_start == x.virt_start) q.1) (eq-eqb x.phys_start x.virt_start (k r x i' p.0))

pub no_comm_from : (system : SystemConfig) (cells : List CellConfig) → RegionsHold CommInRoot system.platform.hypervisor_memory (system.root ∷ cells) → RootHasNoComm system
no_comm_from system cells k r x i some = alone CommInRoot system.platform.hypervisor_memory (system.root ∷ cells) k 0 system.root r x refl i some

pub no_comm_to : (system : SystemConfig) (cells : List CellConfig) → RootHasNoComm system → RegionsHold CommInRoot system.platform.hypervisor_memory (system.root ∷ cells)
no_comm_to system cells k a cell r x n i t =
    let p = parts CommInRoot system.platform.hypervisor_memory a (take r cell.memory_regions) x t in
    let q = and_parts (a == 0) (is_comm x) p.1 in
    let e = root_of system cells a cell (eqb-true a 0 q.0) n in
    let i' : IsItem system.root r x = subst (λ (c : CellConfig). IsItem c r x) (sym e) i in
    both_ways (is_comm x) (k r x i' p.0) q.1

-- ---- communication regions

-- a communication region of another cell has its shape
shaped : (system : SystemConfig) (cells : List CellConfig) → RegionsHold CommShape system.platform.hypervisor_memory (system.root ∷ cells) → (a : ℕ) (cell : CellConfig) → 0 < a → IsNumbered system cells a cell → (r : ℕ) (x : Region) → IsItem cell r x → 0 < x.size → is_comm x ≡ true → is_misshapen (take r cell.memory_regions) x ≡ false
shaped system cells k a cell above n r x i some comm =
    let f = alone CommShape system.platform.hypervisor_memory (system.root ∷ cells) k a cell r x n i some in
    let bad = is_misshapen (take r cell.memory_regions) x in
    let g = and_rest (not (a == 0)) (is_comm x && bad) (λ t. both_ways (not (a == 0) && (is_comm x && bad)) f t) (not_zero a above) in
    and_rest (is_comm x) bad (λ t. both_ways (is_comm x && bad) g t) comm

misshapen_parts : (earlier : List Region) (x : Region) → is_misshapen earlier x ≡ false → (x.size ≡ PAGE_SIZE) × (x.virt_start % PAGE_SIZE ≡ 0) × (list_any is_counted_comm earlier ≡ false)
misshapen_parts earlier x f =
    let whole = x.size == PAGE_SIZE in
    let even = x.virt_start % PAGE_SIZE == 0 in
    let p = or_parts (not whole) (not even || list_any is_counted_comm earlier) f in
    let q = or_parts (not even) (list_any is_counted_comm earlier) p.1 in
    (eqb-true x.size PAGE_SIZE (not-false whole p.0), eqb-true (x.virt_start % PAGE_SIZE) 0 (not-false even q.0), q.1)

-- an earlier communication region
earlier_comm : (cell : CellConfig) (r s : ℕ) (y : Region) → s < r → IsItem cell s y → 0 < y.size → is_comm y ≡ true → list_any is_counted_comm (take r cell.memory_regions) ≡ true
earlier_comm cell r s y l i some comm =
    any_at is_counted_comm (take r cell.memory_regions) s y (take_get r cell.memory_regions s y l i) (and_from (has_size y) (is_comm y) (lt-ltb 0 y.size some) comm)

pub comms_from : (system : SystemConfig) (cells : List CellConfig) → RegionsHold CommShape system.platform.hypervisor_memory (system.root ∷ cells) → CommsArePages system cells
comms_from system cells k a cell above n r x i some comm =
    let p = misshapen_parts (take r cell.memory_regions) x (shaped system cells k a cell above n r x i some comm) in
    record {
      size = p.0;
      aligned = p.1;
      only = λ s y j some' comm'. elim (cases_order s r) [
        | inl same ↦ same
        | inr (inl l) ↦ absurd (both_ways (list_any is_counted_comm (take r cell.memory_regions)) p.2 (earlier_comm cell r s y l j some' comm'))
        | inr (inr l) ↦
            let q = misshapen_parts (take s cell.memory_regions) y (shaped system cells k a cell above n s y j some' comm') in
            absurd (both_ways (list_any is_counted_comm (take s cell.memory_regions)) q.2 (earlier_comm cell s r x l i some comm))
      ];
    }

pub comms_to : (system : SystemConfig) (cells : List CellConfig) → CommsArePages system cells → RegionsHold CommShape system.platform.hypervisor_memory (system.root ∷ cells)
comms_to system cells k a cell r x n i t =
    let earlier = take r cell.memory_regions in
    let p = parts CommShape system.platform.hypervisor_memory a earlier x t in
    let q = and_parts (not (a == 0)) (is_comm x && is_misshapen earlier x) p.1 in
    let u = and_parts (is_comm x) (is_misshapen earlier x) q.1 in
    let page = k a cell (positive a q.0) n r x i p.0 u.0 in
    let whole = x.size == PAGE_SIZE in
    let even = x.virt_start % PAGE_SIZE == 0 in
    elim (or_cases (not whole) (not even || list_any is_counted_comm earlier) u.1) [
      | inl e ↦ both_ways whole (not-true whole e) (eq-eqb x.size PAGE_SIZE page.size)
      | inr e ↦ elim (or_cases (not even) (list_any is_counted_comm earlier) e) [
        | inl f ↦ both_ways even (not-true even f) (eq-eqb (x.virt_start % PAGE_SIZE) 0 page.aligned)
        | inr f ↦
            let w = any_of is_counted_comm earlier f in
            let g = get_take r cell.memory_regions w.0 w.1 w.2 in
            let c = and_parts (has_size w.1) (is_comm w.1) w.3 in
            let same : w.0 ≡ r = page.only w.0 w.1 g.1 (ltb-true 0 w.1.size c.0) c.1 in
            let less : w.0 < r = g.0 in
            omega arith
      ]
    ]

-- ---- root's pages

pub pages_from : (system : SystemConfig) (cells : List CellConfig) → PairsHold SubpageTaken (system.root ∷ cells) → RootKeepsItsPages system cells
unfolding pair_breaks
pages_from system cells h a cell above n r s x y ir is own sub mapped place hx hy =
    let last = is_page_mapped y && phys_meet x y in
    let takes : takes_pages x y ≡ true =
    and_from (is_unshared x) (not (is_page_mapped x) && last) own (
    and_from (not (is_page_mapped x)) last (not_from_false (is_page_mapped x) sub) (
    and_from (is_page_mapped y) (phys_meet x y) mapped (phys_common x y place hx hy))) in
    h a 0 cell system.root r s x y n refl ir is (and_from (not (a == 0)) ((0 == 0) && takes_pages x y) (not_zero a above) takes)

pub pages_to : (system : SystemConfig) (cells : List CellConfig) → RootKeepsItsPages system cells → PairsHold SubpageTaken (system.root ∷ cells)
unfolding pair_breaks
pages_to system cells h a b one other r s x y na nb ir is t =
    let p = and_parts (not (a == 0)) ((b == 0) && takes_pages x y) t in
    let q = and_parts (b == 0) (takes_pages x y) p.1 in
    let last = is_page_mapped y && phys_meet x y in
    let u = and_parts (is_unshared x) (not (is_page_mapped x) && last) q.1 in
    let v = and_parts (not (is_page_mapped x)) last u.1 in
    let w = and_parts (is_page_mapped y) (phys_meet x y) v.1 in
    let e = root_of system cells b other (eqb-true b 0 q.0) nb in
    let iy : IsItem system.root s y = subst (λ (c : CellConfig). IsItem c s y) (sym e) is in
    let m = common_phys x y w.1 in
    h a one (positive a p.0) na r s x y ir iy u.0 (not-true (is_page_mapped x) v.0) w.0 m.0 m.1 m.2

-- ---- cells together

-- a section, by its offset
section_at : (item start count : ℕ) → (nat_le start item && nat_lt (item - start) count) ≡ true → (item ≡ start + (item - start)) × ((item - start) < count)
section_at item start count t =
    let p = and_parts (nat_le start item) (nat_lt (item - start) count) t in
    let le = leb-true start item p.0 in
    (omega arith, ltb-true (item - start) count p.1)

pub at_section : (item start count k : ℕ) → item ≡ start + k → k < count → (nat_le start item && nat_lt (item - start) count) ≡ true
at_section item start count k e l = and_from (nat_le start item) (nat_lt (item - start) count) (le-leb start item (omega arith)) (lt-ltb (item - start) count (omega arith))

pub same_section_from : (one : CellConfig) (r : ℕ) (other : CellConfig) (s : ℕ) → are_same_section one r other s ≡ true → IsSameSection one r other s
unfolding are_same_section
same_section_from one r other s t =
    let d = any_of (λ (d : PciDevice). list_any (λ (e : PciDevice). are_sections_of r s d e) other.pci_devices) one.pci_devices t in
    let e = any_of (λ (e : PciDevice). are_sections_of r s d.1 e) other.pci_devices d.3 in
    let one_start = d.1.shmem_regions_start in
    let other_start = e.1.shmem_regions_start in
    let same = (r - one_start) == (s - other_start) in
    let p = and_parts (are_linked d.1 e.1) (is_section d.1 r && (is_section e.1 s && same)) e.3 in
    let q = and_parts (is_section d.1 r) (is_section e.1 s && same) p.1 in
    let u = and_parts (is_section e.1 s) same q.1 in
    let l = and_parts (d.1.kind == 3) ((e.1.kind == 3) && (d.1.bdf == e.1.bdf)) p.0 in
    let m = and_parts (e.1.kind == 3) (d.1.bdf == e.1.bdf) l.1 in
    let x = section_at r one_start (section_count d.1) q.0 in
    let y = section_at s other_start (section_count e.1) u.0 in
    let offset : r - one_start ≡ s - other_start = eqb-true (r - one_start) (s - other_start) u.1 in
    record {
      device_number = d.0;
      other_number = e.0;
      device = d.1;
      other_device = e.1;
      section = r - one_start;
      is_device = d.2;
      is_other = e.2;
      linked = record { one_kind = eqb-true d.1.kind 3 l.0; other_kind = eqb-true e.1.kind 3 m.0; bdf = eqb-true d.1.bdf e.1.bdf m.1 };
      within = x.1;
      other_within = subst (λ k. k < 2 + e.1.shmem_peers) (sym offset) y.1;
      item = x.0;
      other_item = subst (λ k. s ≡ other_start + k) (sym offset) y.0;
    }

pub same_section_to : (one : CellConfig) (r : ℕ) (other : CellConfig) (s : ℕ) → IsSameSection one r other s → are_same_section one r other s ≡ true
unfolding are_same_section
same_section_to one r other s h =
    let d = h.device in
    let e = h.other_device in
    let same = (r - d.shmem_regions_start) == (s - e.shmem_regions_start) in
    let first = h.item in
    let second = h.other_item in
    let offset : r - d.shmem_regions_start ≡ s - e.shmem_regions_start = omega arith in
    let linked : are_linked d e ≡ true =
    and_from (d.kind == 3) ((e.kind == 3) && (d.bdf == e.bdf)) (eq-eqb d.kind 3 h.linked.one_kind) (
    and_from (e.kind == 3) (d.bdf == e.bdf) (eq-eqb e.kind 3 h.linked.other_kind) (eq-eqb d.bdf e.bdf h.linked.bdf)) in
    let both : are_sections_of r s d e ≡ true =
    and_from (are_linked d e) (is_section d r && (is_section e s && same)) linked (
    and_from (is_section d r) (is_section e s && same) (at_section r d.shmem_regions_start (section_count d) h.section h.item h.within) (
    and_from (is_section e s) same (at_section s e.shmem_regions_start (section_count e) h.section h.other_item h.other_within) (eq-eqb (r - d.shmem_regions_start) (s - e.shmem_regions_start) offset))) in
    any_at (λ (d : PciDevice). list_any (λ (e : PciDevice). are_sections_of r s d e) other.pci_devices) one.pci_devices h.device_number d h.is_device (
    any_at (λ (e : PciDevice). are_sections_of r s d e) other.pci_devices h.other_number e h.is_other both)

pub together_from : (system : SystemConfig) (cells : List CellConfig) → PairsHold CellsOverlap (system.root ∷ cells) → CellsShareAsTheySay system cells
unfolding pair_breaks
together_from system cells h a b one other above below na nb r s x y ir is cx cy place hx hy own =
    let section = are_same_section one r other s in
    same_section_from one r other s (true_from_ne_false section (λ f.
    let last = not (both_shared x y) && not section in
    let rest = share_places x y && last in
    h a b one other r s x y na nb ir is (
    and_from (nat_lt 0 a) (nat_lt a b && rest) (lt-ltb 0 a above) (
    and_from (nat_lt a b) rest (lt-ltb a b below) (
    and_from (share_places x y) last (shared x y cx cy (phys_common x y place hx hy)) (
    and_from (not (both_shared x y)) (not section) (not_from_false (both_shared x y) own) (not_from_false section f)))))))

pub together_to : (system : SystemConfig) (cells : List CellConfig) → CellsShareAsTheySay system cells → PairsHold CellsOverlap (system.root ∷ cells)
unfolding pair_breaks
together_to system cells h a b one other r s x y na nb ir is t =
    let section = are_same_section one r other s in
    let last = not (both_shared x y) && not section in
    let rest = share_places x y && last in
    let p = and_parts (nat_lt 0 a) (nat_lt a b && rest) t in
    let q = and_parts (nat_lt a b) rest p.1 in
    let u = and_parts (share_places x y) last q.1 in
    let v = and_parts (not (both_shared x y)) (not section) u.1 in
    let w = share_parts x y u.0 in
    let m = common_phys x y w.2 in
    let same = h a b one other (ltb-true 0 a p.0) (ltb-true a b q.0) na nb r s x y ir is (not-true (is_comm x) w.0) (not-true (is_comm y) w.1) m.0 m.1 m.2 (not-true (both_shared x y) v.0) in
    both_ways section (not-true section v.1) (same_section_to one r other s same)
