-- What breaks a rule by its tests breaks it by its words, and the other way round.
use Rattle.std.proofs.Common.{◌≡◌, ◌≢◌, ℕ, ◌%◌, ◌<◌, Bool, true, false, ◌&&◌, ◌||◌, not, ◌==◌, nat_lt, List, ◌∷◌, take, ◌⊎◌, inl, inr}
use Rattle.std.specs.Prelude.{Contains}
use Rattle.std.specs.List.{list_any}
use Rattle.std.proofs.lemmas.Bool.{false≢true, ltb-true, lt-ltb, eqb-true, eqb-false, eq-eqb, ne_eqb, cases_Bool, and_parts, and_from, or_cases, or_left, or_right, not-true, not_from_false, both_ways}
use Rattle.jh_num.specs.declared.address.TheConstants.{ADDRESS_END, PAGE_SIZE}
use Rattle.jh_cellcfg.specs.declared.region.Region.{Region}
use Rattle.jh_cellcfg.specs.declared.config.CellConfig.{CellConfig}
use Rattle.jh_cellcfg.specs.declared.config.SystemConfig.{SystemConfig}
use Rattle.jh_cellcfg.specs.Regions.{has_flags, virt_end, phys_end, is_page_mapped, is_comm, is_unshared, has_size, virt_meet, phys_meet}
use Rattle.jh_check.specs.declared.finding.Finding.{Finding}
use Rattle.jh_check.specs.declared.rule.Rule.{Rule}
use Rattle.jh_check.specs.declared.rule.Rule.TheVariants.{VirtOverlap, PhysOverlap, Hypervisor, OutOfRange, RootNotIdentity, CommInRoot, CommShape, ExecuteWithoutRead, SubpageTaken, CellsOverlap, Shmem, NoCpu, PhysAlign}
use Rattle.jh_check.specs.Regions.{Spot, pair_breaks, region_breaks, breaks_alone, hypervisor_breaks, share_places, takes_pages, both_shared, is_counted_comm, is_misshapen}
use Rattle.jh_check.specs.Devices.{is_shmem, are_same_section, is_good_shmem, device_breaks, cpus_break}
use Rattle.jh_check.specs.Findings.{spot, findings}
use Rattle.jh_check.specs.Clean.{IsSameSection}
use Rattle.jh_check.specs.Broken.{BreakTogether, HasEarlierComm, BreaksAlone, BreaksMemory, IsPairFinding, IsRegionFinding, IsMemoryFinding, IsDeviceFinding, IsCpuFinding, IsFindingOf, IsBroken}
use Rattle.jh_check.proofs.BreakLemmas.{share_parts, within_parts}
use Rattle.jh_check.proofs.CleanLemmas.{positive, not_zero, get_take, take_get, any_at, any_of, virt_common, phys_common, common_virt, common_phys, shared, same_section_from, same_section_to}
use Rattle.jh_check.proofs.DeviceLemmas.{good_words, words_good, bitmap_from, bitmap_to}
use Rattle.jh_check.proofs.Tested.{OfPair, OfRegion, OfMemory, OfDevice, OfCpus, OfRule}
use Rattle.jh_check.proofs.FindingLemmas.{tested_from_listed, listed_from_tested}

-- ---- two regions

no_section : (one : Spot) (other : Spot) → are_same_section one.config one.item other.config other.item ≡ false → IsSameSection one.config one.item other.config other.item → ⊥
no_section one other f h = both_ways (are_same_section one.config one.item other.config other.item) f (same_section_to one.config one.item other.config other.item h)

no_test : (one : Spot) (other : Spot) → (IsSameSection one.config one.item other.config other.item → ⊥) → not (are_same_section one.config one.item other.config other.item) ≡ true
no_test one other n =
    elim (cases_Bool (are_same_section one.config one.item other.config other.item)) [
      | inl t ↦ absurd (n (same_section_from one.config one.item other.config other.item t))
      | inr f ↦ not_from_false (are_same_section one.config one.item other.config other.item) f
    ]

pair_words : (rule : Rule) (one other : Spot) → pair_breaks rule one other ≡ true → BreakTogether rule one other
unfolding pair_breaks
pair_words VirtOverlap one other t =
    let p = within_parts one other (virt_meet one.region other.region) t in
    ((eqb-true one.cell other.cell p.0, ltb-true one.item other.item p.1), common_virt one.region other.region p.2)
pair_words PhysOverlap one other t =
    let p = within_parts one other (share_places one.region other.region) t in
    let q = share_parts one.region other.region p.2 in
    ((eqb-true one.cell other.cell p.0, ltb-true one.item other.item p.1), (not-true (is_comm one.region) q.0, not-true (is_comm other.region) q.1), common_phys one.region other.region q.2)
pair_words SubpageTaken one other t =
    let x = one.region in
    let y = other.region in
    let last = is_page_mapped y && phys_meet x y in
    let p = and_parts (not (one.cell == 0)) ((other.cell == 0) && takes_pages x y) t in
    let q = and_parts (other.cell == 0) (takes_pages x y) p.1 in
    let u = and_parts (is_unshared x) (not (is_page_mapped x) && last) q.1 in
    let v = and_parts (not (is_page_mapped x)) last u.1 in
    let w = and_parts (is_page_mapped y) (phys_meet x y) v.1 in
    ((positive one.cell p.0, eqb-true other.cell 0 q.0), (u.0, not-true (is_page_mapped x) v.0, w.0), common_phys x y w.1)
pair_words CellsOverlap one other t =
    let x = one.region in
    let y = other.region in
    let section = are_same_section one.config one.item other.config other.item in
    let last = not (both_shared x y) && not section in
    let rest = share_places x y && last in
    let p = and_parts (nat_lt 0 one.cell) (nat_lt one.cell other.cell && rest) t in
    let q = and_parts (nat_lt one.cell other.cell) rest p.1 in
    let u = and_parts (share_places x y) last q.1 in
    let v = and_parts (not (both_shared x y)) (not section) u.1 in
    let w = share_parts x y u.0 in
    ((ltb-true 0 one.cell p.0, ltb-true one.cell other.cell q.0), (not-true (is_comm x) w.0, not-true (is_comm y) w.1), common_phys x y w.2, not-true (both_shared x y) v.0, no_section one other (not-true section v.1))
pair_words _ one other t = absurd (false≢true t)

words_pair : (rule : Rule) (one other : Spot) → BreakTogether rule one other → pair_breaks rule one other ≡ true
unfolding pair_breaks
words_pair VirtOverlap one other w =
    let x = one.region in
    let y = other.region in
    and_from (one.cell == other.cell) (nat_lt one.item other.item && virt_meet x y) (eq-eqb one.cell other.cell w.0.0) (
    and_from (nat_lt one.item other.item) (virt_meet x y) (lt-ltb one.item other.item w.0.1) (virt_common x y w.1.0 w.1.1 w.1.2))
words_pair PhysOverlap one other w =
    let x = one.region in
    let y = other.region in
    and_from (one.cell == other.cell) (nat_lt one.item other.item && share_places x y) (eq-eqb one.cell other.cell w.0.0) (
    and_from (nat_lt one.item other.item) (share_places x y) (lt-ltb one.item other.item w.0.1) (shared x y w.1.0 w.1.1 (phys_common x y w.2.0 w.2.1 w.2.2)))
words_pair SubpageTaken one other w =
    let x = one.region in
    let y = other.region in
    let last = is_page_mapped y && phys_meet x y in
    and_from (not (one.cell == 0)) ((other.cell == 0) && takes_pages x y) (not_zero one.cell w.0.0) (
    and_from (other.cell == 0) (takes_pages x y) (eq-eqb other.cell 0 w.0.1) (
    and_from (is_unshared x) (not (is_page_mapped x) && last) w.1.0 (
    and_from (not (is_page_mapped x)) last (not_from_false (is_page_mapped x) w.1.1) (
    and_from (is_page_mapped y) (phys_meet x y) w.1.2 (phys_common x y w.2.0 w.2.1 w.2.2)))))
words_pair CellsOverlap one other w =
    let x = one.region in
    let y = other.region in
    let section = are_same_section one.config one.item other.config other.item in
    let last = not (both_shared x y) && not section in
    let rest = share_places x y && last in
    and_from (nat_lt 0 one.cell) (nat_lt one.cell other.cell && rest) (lt-ltb 0 one.cell w.0.0) (
    and_from (nat_lt one.cell other.cell) rest (lt-ltb one.cell other.cell w.0.1) (
    and_from (share_places x y) last (shared x y w.1.0 w.1.1 (phys_common x y w.2.0 w.2.1 w.2.2)) (
    and_from (not (both_shared x y)) (not section) (not_from_false (both_shared x y) w.3) (no_test one other w.4))))
words_pair _ one other w = absurd w

-- ---- one region

earlier_words : (l : Spot) → list_any is_counted_comm (take l.item l.config.memory_regions) ≡ true → HasEarlierComm l
earlier_words l t =
    let w = any_of is_counted_comm (take l.item l.config.memory_regions) t in
    let g = get_take l.item l.config.memory_regions w.0 w.1 w.2 in
    let c = and_parts (has_size w.1) (is_comm w.1) w.3 in
    (w.0, w.1, g.0, g.1, ltb-true 0 w.1.size c.0, c.1)

words_earlier : (l : Spot) → HasEarlierComm l → list_any is_counted_comm (take l.item l.config.memory_regions) ≡ true
words_earlier l h =
    any_at is_counted_comm (take l.item l.config.memory_regions) h.0 h.1 (take_get l.item l.config.memory_regions h.0 h.1 h.2 h.3) (and_from (has_size h.1) (is_comm h.1) (lt-ltb 0 h.1.size h.4) h.5)

-- two numbers that aren't equal
unequal : (m n : ℕ) → not (m == n) ≡ true → m ≢ n
unequal m n t = eqb-false m n (not-true (m == n) t)

unequal_test : (m n : ℕ) → m ≢ n → not (m == n) ≡ true
unequal_test m n h = not_from_false (m == n) (ne_eqb m n h)

shape_words : (l : Spot) → is_misshapen (take l.item l.config.memory_regions) l.region ≡ true → (l.region.size ≢ PAGE_SIZE) ⊎ ((l.region.virt_start % PAGE_SIZE ≢ 0) ⊎ HasEarlierComm l)
shape_words l t =
    let x = l.region in
    let seen = list_any is_counted_comm (take l.item l.config.memory_regions) in
    let odd = not (x.virt_start % PAGE_SIZE == 0) in
    elim (or_cases (not (x.size == PAGE_SIZE)) (odd || seen) t) [
      | inl e ↦ inl (unequal x.size PAGE_SIZE e)
      | inr e ↦ elim (or_cases odd seen e) [
        | inl f ↦ inr (inl (unequal (x.virt_start % PAGE_SIZE) 0 f))
        | inr f ↦ inr (inr (earlier_words l f))
      ]
    ]

words_shape : (l : Spot) → (l.region.size ≢ PAGE_SIZE) ⊎ ((l.region.virt_start % PAGE_SIZE ≢ 0) ⊎ HasEarlierComm l) → is_misshapen (take l.item l.config.memory_regions) l.region ≡ true
words_shape l w =
    let x = l.region in
    let seen = list_any is_counted_comm (take l.item l.config.memory_regions) in
    let odd = not (x.virt_start % PAGE_SIZE == 0) in
    elim w [
      | inl e ↦ or_left (not (x.size == PAGE_SIZE)) (odd || seen) (unequal_test x.size PAGE_SIZE e)
      | inr v ↦ or_right (not (x.size == PAGE_SIZE)) (odd || seen) (elim v [
        | inl f ↦ or_left odd seen (unequal_test (x.virt_start % PAGE_SIZE) 0 f)
        | inr f ↦ or_right odd seen (words_earlier l f)
      ])
    ]

alone_words : (rule : Rule) (h : Region) (l : Spot) → breaks_alone rule h l.cell (take l.item l.config.memory_regions) l.region ≡ true → BreaksAlone rule h l
alone_words Hypervisor h l t =
    let p = and_parts (not (is_comm l.region)) (phys_meet l.region h) t in
    (not-true (is_comm l.region) p.0, common_phys l.region h p.1)
alone_words OutOfRange h l t =
    let x = l.region in
    let far = nat_lt ADDRESS_END (phys_end x) in
    elim (or_cases (nat_lt ADDRESS_END (virt_end x)) (not (is_comm x) && far) t) [
      | inl e ↦ inl (ltb-true ADDRESS_END (virt_end x) e)
      | inr e ↦ let p = and_parts (not (is_comm x)) far e in inr (not-true (is_comm x) p.0, ltb-true ADDRESS_END (phys_end x) p.1)
    ]
alone_words RootNotIdentity h l t =
    let x = l.region in
    let p = and_parts (l.cell == 0) (not (x.phys_start == x.virt_start)) t in
    (eqb-true l.cell 0 p.0, unequal x.phys_start x.virt_start p.1)
alone_words CommInRoot h l t =
    let p = and_parts (l.cell == 0) (is_comm l.region) t in
    (eqb-true l.cell 0 p.0, p.1)
alone_words CommShape h l t =
    let x = l.region in
    let bad = is_misshapen (take l.item l.config.memory_regions) x in
    let p = and_parts (not (l.cell == 0)) (is_comm x && bad) t in
    let q = and_parts (is_comm x) bad p.1 in
    (positive l.cell p.0, q.0, shape_words l q.1)
alone_words ExecuteWithoutRead h l t =
    let p = and_parts (has_flags 0x4 l.region) (not (has_flags 0x1 l.region)) t in
    (p.0, not-true (has_flags 0x1 l.region) p.1)
alone_words PhysAlign h l t =
    let x = l.region in
    let odd = not (x.phys_start % PAGE_SIZE == 0) in
    let p = and_parts (is_page_mapped x) (not (is_comm x) && odd) t in
    let q = and_parts (not (is_comm x)) odd p.1 in
    (p.0, not-true (is_comm x) q.0, unequal (x.phys_start % PAGE_SIZE) 0 q.1)
alone_words _ h l t = absurd (false≢true t)

words_alone : (rule : Rule) (h : Region) (l : Spot) → BreaksAlone rule h l → breaks_alone rule h l.cell (take l.item l.config.memory_regions) l.region ≡ true
words_alone Hypervisor h l w =
    and_from (not (is_comm l.region)) (phys_meet l.region h) (not_from_false (is_comm l.region) w.0) (phys_common l.region h w.1.0 w.1.1 w.1.2)
words_alone OutOfRange h l (inl e) =
    or_left (nat_lt ADDRESS_END (virt_end l.region)) (not (is_comm l.region) && nat_lt ADDRESS_END (phys_end l.region)) (lt-ltb ADDRESS_END (virt_end l.region) e)
words_alone OutOfRange h l (inr p) =
    let x = l.region in
    let far = nat_lt ADDRESS_END (phys_end x) in
    or_right (nat_lt ADDRESS_END (virt_end x)) (not (is_comm x) && far) (and_from (not (is_comm x)) far (not_from_false (is_comm x) p.0) (lt-ltb ADDRESS_END (phys_end x) p.1))
words_alone RootNotIdentity h l w =
    let x = l.region in
    and_from (l.cell == 0) (not (x.phys_start == x.virt_start)) (eq-eqb l.cell 0 w.0) (unequal_test x.phys_start x.virt_start w.1)
words_alone CommInRoot h l w = and_from (l.cell == 0) (is_comm l.region) (eq-eqb l.cell 0 w.0) w.1
words_alone CommShape h l w =
    let x = l.region in
    let bad = is_misshapen (take l.item l.config.memory_regions) x in
    and_from (not (l.cell == 0)) (is_comm x && bad) (not_zero l.cell w.0) (and_from (is_comm x) bad w.1 (words_shape l w.2))
words_alone ExecuteWithoutRead h l w =
    and_from (has_flags 0x4 l.region) (not (has_flags 0x1 l.region)) w.0 (not_from_false (has_flags 0x1 l.region) w.1)
words_alone PhysAlign h l w =
    let x = l.region in
    let odd = not (x.phys_start % PAGE_SIZE == 0) in
    and_from (is_page_mapped x) (not (is_comm x) && odd) w.0 (and_from (not (is_comm x)) odd (not_from_false (is_comm x) w.1) (unequal_test (x.phys_start % PAGE_SIZE) 0 w.2))
words_alone _ h l w = absurd w

-- ---- the hypervisor's memory

memory_words : (rule : Rule) (h : Region) → hypervisor_breaks rule h ≡ true → BreaksMemory rule h
unfolding hypervisor_breaks
memory_words OutOfRange h t =
    let far = nat_lt ADDRESS_END (phys_end h) in
    let big = nat_lt 0x4000000 h.size in
    elim (or_cases (h.size == 0) (big || far) t) [
      | inl e ↦ inl (eqb-true h.size 0 e)
      | inr k ↦ elim (or_cases big far k) [
        | inl e ↦ inr (inl (ltb-true 0x4000000 h.size e))
        | inr e ↦ inr (inr (ltb-true ADDRESS_END (phys_end h) e))
      ]
    ]
memory_words PhysAlign h t =
    let one = not (h.phys_start % PAGE_SIZE == 0) in
    let two = not (h.size % PAGE_SIZE == 0) in
    let p = and_parts (has_size h) (one || two) t in (
      ltb-true 0 h.size p.0,
      elim (or_cases one two p.1) [
        | inl e ↦ inl (unequal (h.phys_start % PAGE_SIZE) 0 e)
        | inr e ↦ inr (unequal (h.size % PAGE_SIZE) 0 e)
      ],
    )
memory_words _ h t = absurd (false≢true t)

words_memory : (rule : Rule) (h : Region) → BreaksMemory rule h → hypervisor_breaks rule h ≡ true
unfolding hypervisor_breaks
words_memory OutOfRange h (inl e) =
    or_left (h.size == 0) (nat_lt 0x4000000 h.size || nat_lt ADDRESS_END (phys_end h)) (eq-eqb h.size 0 e)
words_memory OutOfRange h (inr (inl e)) =
    let far = nat_lt ADDRESS_END (phys_end h) in
    let big = nat_lt 0x4000000 h.size in
    let l : 0x4000000 < h.size = e in
    or_right (h.size == 0) (big || far) (or_left big far (lt-ltb 0x4000000 h.size l))
words_memory OutOfRange h (inr (inr e)) =
    let far = nat_lt ADDRESS_END (phys_end h) in
    let big = nat_lt 0x4000000 h.size in
    or_right (h.size == 0) (big || far) (or_right big far (lt-ltb ADDRESS_END (phys_end h) e))
words_memory PhysAlign h w =
    let one = not (h.phys_start % PAGE_SIZE == 0) in
    let two = not (h.size % PAGE_SIZE == 0) in
    and_from (has_size h) (one || two) (lt-ltb 0 h.size w.0) (either one two w.1)
  where
    either : (one two : Bool) → (h.phys_start % PAGE_SIZE ≢ 0) ⊎ (h.size % PAGE_SIZE ≢ 0) → (not (h.phys_start % PAGE_SIZE == 0) || not (h.size % PAGE_SIZE == 0)) ≡ true
    either one two (inl e) = or_left (not (h.phys_start % PAGE_SIZE == 0)) (not (h.size % PAGE_SIZE == 0)) (unequal_test (h.phys_start % PAGE_SIZE) 0 e)
    either one two (inr e) = or_right (not (h.phys_start % PAGE_SIZE == 0)) (not (h.size % PAGE_SIZE == 0)) (unequal_test (h.size % PAGE_SIZE) 0 e)
words_memory _ h w = absurd w

-- ---- findings

two_tell : (rule : Rule) (all : List CellConfig) (f : Finding) → OfPair rule all f → IsPairFinding rule all f
two_tell rule all f p = record {
  one = spot p.a p.one p.r p.x;
  other = spot p.b p.other p.s p.y;
  is_one = record { cell = p.is_one; region = p.is_x };
  is_other = record { cell = p.is_other; region = p.is_y };
  breaks = pair_words rule (spot p.a p.one p.r p.x) (spot p.b p.other p.s p.y) p.breaks;
  told = p.told;
}

tell_two : (rule : Rule) (all : List CellConfig) (f : Finding) → IsPairFinding rule all f → OfPair rule all f
tell_two rule all f t = record {
  a = t.one.cell;
  b = t.other.cell;
  one = t.one.config;
  other = t.other.config;
  r = t.one.item;
  s = t.other.item;
  x = t.one.region;
  y = t.other.region;
  is_one = t.is_one.cell;
  is_other = t.is_other.cell;
  is_x = t.is_one.region;
  is_y = t.is_other.region;
  breaks = words_pair rule t.one t.other t.breaks;
  told = t.told;
}

one_tells : (rule : Rule) (h : Region) (all : List CellConfig) (f : Finding) → OfRegion rule h all f → IsRegionFinding rule h all f
unfolding region_breaks
one_tells rule h all f p =
    let q = and_parts (has_size p.x) (breaks_alone rule h p.a (take p.r p.one.memory_regions) p.x) p.breaks in
    record {
      at = spot p.a p.one p.r p.x;
      is_at = record { cell = p.is_one; region = p.is_x };
      some = ltb-true 0 p.x.size q.0;
      breaks = alone_words rule h (spot p.a p.one p.r p.x) q.1;
      told = p.told;
    }

tell_one : (rule : Rule) (h : Region) (all : List CellConfig) (f : Finding) → IsRegionFinding rule h all f → OfRegion rule h all f
unfolding region_breaks
tell_one rule h all f t = record {
  a = t.at.cell;
  one = t.at.config;
  r = t.at.item;
  x = t.at.region;
  is_one = t.is_at.cell;
  is_x = t.is_at.region;
  breaks = and_from (has_size t.at.region) (breaks_alone rule h t.at.cell (take t.at.item t.at.config.memory_regions) t.at.region) (lt-ltb 0 t.at.region.size t.some) (words_alone rule h t.at t.breaks);
  told = t.told;
}

memory_tells : (rule : Rule) (h : Region) (f : Finding) → OfMemory rule h f → IsMemoryFinding rule h f
memory_tells rule h f p = record { breaks = memory_words rule h p.breaks; told = p.told }

tell_memory : (rule : Rule) (h : Region) (f : Finding) → IsMemoryFinding rule h f → OfMemory rule h f
tell_memory rule h f t = record { breaks = words_memory rule h t.breaks; told = t.told }

device_tells : (all : List CellConfig) (f : Finding) → OfDevice all f → IsDeviceFinding all f
unfolding device_breaks
device_tells all f p =
    let good = is_good_shmem (take p.a all) p.one (take p.n p.one.pci_devices) p.device in
    let q = and_parts (is_shmem p.device) (not good) p.breaks in
    let kind = eqb-true p.device.kind 3 q.0 in
    record {
      a = p.a;
      cell = p.one;
      n = p.n;
      device = p.device;
      is_cell = p.is_one;
      is_device = p.is_device;
      kind = kind;
      breaks = λ sound among. both_ways good (not-true good q.1) (words_good all p.a p.one p.n p.device kind sound among);
      told = p.told;
    }

tell_device : (all : List CellConfig) (f : Finding) → IsDeviceFinding all f → OfDevice all f
unfolding device_breaks
tell_device all f t =
    let good = is_good_shmem (take t.a all) t.cell (take t.n t.cell.pci_devices) t.device in
    let bad : not good ≡ true = elim (cases_Bool good) [
      | inl g ↦ let w = good_words all t.a t.cell t.n t.device t.kind g in absurd (t.breaks w.0 w.1)
      | inr g ↦ not_from_false good g
    ] in
    record {
      a = t.a;
      one = t.cell;
      n = t.n;
      device = t.device;
      is_one = t.is_cell;
      is_device = t.is_device;
      breaks = and_from (is_shmem t.device) (not good) (eq-eqb t.device.kind 3 t.kind) bad;
      told = t.told;
    }

cpus_tell : (all : List CellConfig) (f : Finding) → OfCpus all f → IsCpuFinding all f
cpus_tell all f p = record { a = p.a; cell = p.one; is_cell = p.is_one; breaks = λ sound. bitmap_to p.one.cpu_set sound p.breaks; told = p.told }

tell_cpus : (all : List CellConfig) (f : Finding) → IsCpuFinding all f → OfCpus all f
tell_cpus all f t =
    let bad : cpus_break t.cell.cpu_set ≡ true = elim (cases_Bool (cpus_break t.cell.cpu_set)) [
      | inl b ↦ b
      | inr b ↦ absurd (t.breaks (bitmap_from t.cell.cpu_set (λ u. both_ways (cpus_break t.cell.cpu_set) b u)))
    ] in
    record { a = t.a; one = t.cell; is_one = t.is_cell; breaks = bad; told = t.told }

both_tell : (rule : Rule) (h : Region) (all : List CellConfig) (f : Finding) → OfRegion rule h all f ⊎ OfMemory rule h f → IsRegionFinding rule h all f ⊎ IsMemoryFinding rule h f
both_tell rule h all f (inl p) = inl (one_tells rule h all f p)
both_tell rule h all f (inr p) = inr (memory_tells rule h f p)

tell_both : (rule : Rule) (h : Region) (all : List CellConfig) (f : Finding) → IsRegionFinding rule h all f ⊎ IsMemoryFinding rule h f → OfRegion rule h all f ⊎ OfMemory rule h f
tell_both rule h all f (inl t) = inl (tell_one rule h all f t)
tell_both rule h all f (inr t) = inr (tell_memory rule h f t)

tells : (rule : Rule) (h : Region) (all : List CellConfig) (f : Finding) → OfRule rule h all f → IsFindingOf rule h all f
tells VirtOverlap h all f p = two_tell VirtOverlap all f p
tells PhysOverlap h all f p = two_tell PhysOverlap all f p
tells Hypervisor h all f p = one_tells Hypervisor h all f p
tells OutOfRange h all f p = both_tell OutOfRange h all f p
tells RootNotIdentity h all f p = one_tells RootNotIdentity h all f p
tells CommInRoot h all f p = one_tells CommInRoot h all f p
tells CommShape h all f p = one_tells CommShape h all f p
tells ExecuteWithoutRead h all f p = one_tells ExecuteWithoutRead h all f p
tells SubpageTaken h all f p = two_tell SubpageTaken all f p
tells CellsOverlap h all f p = two_tell CellsOverlap all f p
tells Shmem h all f p = device_tells all f p
tells NoCpu h all f p = cpus_tell all f p
tells PhysAlign h all f p = both_tell PhysAlign h all f p

told : (rule : Rule) (h : Region) (all : List CellConfig) (f : Finding) → IsFindingOf rule h all f → OfRule rule h all f
told VirtOverlap h all f t = tell_two VirtOverlap all f t
told PhysOverlap h all f t = tell_two PhysOverlap all f t
told Hypervisor h all f t = tell_one Hypervisor h all f t
told OutOfRange h all f t = tell_both OutOfRange h all f t
told RootNotIdentity h all f t = tell_one RootNotIdentity h all f t
told CommInRoot h all f t = tell_one CommInRoot h all f t
told CommShape h all f t = tell_one CommShape h all f t
told ExecuteWithoutRead h all f t = tell_one ExecuteWithoutRead h all f t
told SubpageTaken h all f t = tell_two SubpageTaken all f t
told CellsOverlap h all f t = tell_two CellsOverlap all f t
told Shmem h all f t = tell_device all f t
told NoCpu h all f t = tell_cpus all f t
told PhysAlign h all f t = tell_both PhysAlign h all f t

pub broken_from_listed : (system : SystemConfig) (cells : List CellConfig) (f : Finding) → Contains (findings system cells) f → IsBroken system cells f
broken_from_listed system cells f c =
    let b = tested_from_listed system cells f c in
    record { rule = b.rule; by = tells b.rule system.platform.hypervisor_memory (system.root ∷ cells) f b.by }

pub listed_from_broken : (system : SystemConfig) (cells : List CellConfig) (f : Finding) → IsBroken system cells f → Contains (findings system cells) f
listed_from_broken system cells f b =
    listed_from_tested system cells f (record { rule = b.rule; by = told b.rule system.platform.hypervisor_memory (system.root ∷ cells) f b.by })
