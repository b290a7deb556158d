-- Where no rule about devices or CPU sets is broken, and what that says in the rule's own words.
use Rattle.std.proofs.Common.{◌≡◌, ◌≢◌, ℕ, ◌+◌, ◌-◌, ◌<◌, ◌≤◌, Bool, true, false, ◌&&◌, ◌||◌, not, ◌==◌, nat_lt, nat_le, nat_eq, List, [], ◌∷◌, length, take, drop, get_or, zero, suc, Some, slice_get, refl, sym, ap, subst, ◌⊎◌, inl, inr, ◌∙◌, arith, length-drop}
use Rattle.std.specs.Prelude.{if◌then◌else◌}
use Rattle.std.specs.List.{list_all}
use Rattle.std.specs.Cmp.Lexicographic.{pointwise}
use Rattle.std.proofs.lemmas.Bool.{false≢true, ltb-true, leb-true, lt-ltb, le-leb, eqb-true, eqb-false, eq-eqb, ne_eqb, cases_eq, cases_order, cases_Bool, and_parts, and_from, or_cases, or_parts, or_left, or_right, not-true, not-false, not_from_false, false_from_ne_true, both_ways}
use Rattle.std.proofs.lemmas.Option.{slice_get-get_or}
use Rattle.std.proofs.lemmas.List.{length-take, get_or-drop}
use Rattle.std.proofs.lemmas.Slice.Eq.{bytes_eq-Decides}
use Rattle.jh_cellcfg.specs.declared.region.Region.{Region}
use Rattle.jh_cellcfg.specs.declared.config.PciDevice.{PciDevice}
use Rattle.jh_cellcfg.specs.declared.config.CellConfig.{CellConfig}
use Rattle.jh_cellcfg.specs.declared.config.SystemConfig.{SystemConfig}
use Rattle.jh_cellcfg.specs.Regions.{has_flags, virt_end, is_page_mapped, is_comm, is_loadable}
use Rattle.jh_cellcfg.specs.Limits.{is_zero}
use Rattle.jh_check.specs.Devices.{is_shmem, are_linked, section_count, sections_of, has_good_peers, has_good_bars, bars_of, has_all_sections, is_good_table, has_good_table, is_section_region, are_read_only, are_alike, follows, are_in_a_row, is_twice, is_same_memory, are_same_memory, agrees_with, agrees_with_all, has_good_sections, is_good_shmem, device_breaks, cpus_break}
use Rattle.jh_check.specs.Broken.{IsConsistentAmong}
use Rattle.jh_check.specs.Clean.{IsDevice, IsShmem, AreLinked, IsSection, IsStateTable, IsSectionRegion, IsGoodDevice, DevicesAreGood, DevicesAreSingle, AgreesWith, LinksAgree, IsSoundBitmap, CpusAreFew}
use Rattle.jh_check.proofs.CleanLemmas.{get_take, take_get, any_at, any_of, and_rest}
use Rattle.jh_cellcfg.proofs.Public.{no_region}

-- a device whose fields are all 0, for places past a list's end
abbrev pub no_device : PciDevice
no_device = record {
  kind = 0;
  iommu = 0;
  domain = 0;
  bdf = 0;
  bar_mask = [];
  caps_start = 0;
  num_caps = 0;
  num_msi_vectors = 0;
  msi_bits = 0;
  num_msix_vectors = 0;
  msix_region_size = 0;
  msix_address = 0;
  shmem_regions_start = 0;
  shmem_dev_id = 0;
  shmem_peers = 0;
  shmem_protocol = 0;
}

-- ---- lists by number

pub get_drop : {X : Type 0} (n : ℕ) (xs : List X) (i : ℕ) → slice_get (drop n xs) i ≡ slice_get xs (n + i)
get_drop zero xs i = ap (slice_get xs) (let e : i ≡ 0 + i = omega arith in e)
get_drop (suc n) [] i = refl
get_drop (suc n) (y ∷ xs) i =
    let e : suc (n + i) ≡ suc n + i = omega arith in
    get_drop n xs i ∙ ap (slice_get (y ∷ xs)) e

pub all_at : {X : Type 0} (p : X → Bool) (xs : List X) → list_all p xs ≡ true → (i : ℕ) (x : X) → slice_get xs i ≡ Some x → p x ≡ true
all_at p [] t i x h = cc
all_at p (y ∷ xs) t zero x h =
    let e : y ≡ x = cc in
    subst (λ z. p z ≡ true) e (and_parts (p y) (list_all p xs) t).0
all_at p (y ∷ xs) t (suc i) x h = all_at p xs (and_parts (p y) (list_all p xs) t).1 i x h

pub all_from : {X : Type 0} (p : X → Bool) (xs : List X) → ((i : ℕ) (x : X) → slice_get xs i ≡ Some x → p x ≡ true) → list_all p xs ≡ true
all_from p [] h = refl
all_from p (y ∷ xs) h = and_from (p y) (list_all p xs) (h 0 y refl) (all_from p xs (λ i x k. h (suc i) x k))

themselves : (xs : List ℕ) → pointwise nat_eq xs xs ≡ true
themselves [] = refl
themselves (x ∷ xs) = and_from (nat_eq x x) (pointwise nat_eq xs xs) (eq-eqb x x refl) (themselves xs)

-- two lists of which each element of the one has its like in the other
like_at : {X : Type 0} (p : X → X → Bool) (xs ys : List X) → pointwise p xs ys ≡ true → (k : ℕ) (x : X) → slice_get xs k ≡ Some x → (y : X) × (slice_get ys k ≡ Some y) × (p x y ≡ true)
like_at p [] ys t k x h = cc
like_at p (z ∷ xs) [] t k x h = absurd (false≢true t)
like_at p (z ∷ xs) (y ∷ ys) t zero x h =
    let e : z ≡ x = cc in
    (y, refl, subst (λ v. p v y ≡ true) e (and_parts (p z y) (pointwise p xs ys) t).0)
like_at p (z ∷ xs) (y ∷ ys) t (suc k) x h = like_at p xs ys (and_parts (p z y) (pointwise p xs ys) t).1 k x h

like_from : {X : Type 0} (p : X → X → Bool) (xs ys : List X) → ((k : ℕ) (x : X) → slice_get xs k ≡ Some x → (y : X) × (slice_get ys k ≡ Some y) × (p x y ≡ true)) → length ys ≤ length xs → pointwise p xs ys ≡ true
like_from p [] [] h l = refl
like_from p [] (y ∷ ys) h l = absurd (omega arith)
like_from p (x ∷ xs) [] h l = let r = h 0 x refl in let e = r.1 in cc
like_from p (x ∷ xs) (y ∷ ys) h l =
    let r = h 0 x refl in
    let e : r.0 ≡ y = let k = r.1 in cc in
    and_from (p x y) (pointwise p xs ys) (subst (λ z. p x z ≡ true) e r.2) (like_from p xs ys (λ k z g. h (suc k) z g) (omega arith))

-- ---- sections

pub section_in : (cell : CellConfig) (d : PciDevice) (k : ℕ) (x : Region) → IsSection cell d k x → slice_get (sections_of cell.memory_regions d) k ≡ Some x
section_in cell d k x h = take_get (section_count d) (drop d.shmem_regions_start cell.memory_regions) k x h.number (get_drop d.shmem_regions_start cell.memory_regions k ∙ h.item)

pub in_section : (cell : CellConfig) (d : PciDevice) (k : ℕ) (x : Region) → slice_get (sections_of cell.memory_regions d) k ≡ Some x → IsSection cell d k x
in_section cell d k x h =
    let g = get_take (section_count d) (drop d.shmem_regions_start cell.memory_regions) k x h in
    record { number = g.0; item = sym (get_drop d.shmem_regions_start cell.memory_regions k) ∙ g.1 }

-- outputs stand behind the two others
output_in : (cell : CellConfig) (d : PciDevice) (p : ℕ) (x : Region) → IsSection cell d (2 + p) x → slice_get (drop 2 (sections_of cell.memory_regions d)) p ≡ Some x
output_in cell d p x h = get_drop 2 (sections_of cell.memory_regions d) p ∙ section_in cell d (2 + p) x h

in_output : (cell : CellConfig) (d : PciDevice) (p : ℕ) (x : Region) → slice_get (drop 2 (sections_of cell.memory_regions d)) p ≡ Some x → IsSection cell d (2 + p) x
in_output cell d p x h = in_section cell d (2 + p) x (sym (get_drop 2 (sections_of cell.memory_regions d) p) ∙ h)

pub section_exists : (cell : CellConfig) (d : PciDevice) (k : ℕ) → d.shmem_regions_start + (2 + d.shmem_peers) ≤ length cell.memory_regions → k < 2 + d.shmem_peers → (x : Region) × IsSection cell d k x
section_exists cell d k all l =
    (get_or cell.memory_regions (d.shmem_regions_start + k) no_region, record { number = l; item = slice_get-get_or cell.memory_regions (d.shmem_regions_start + k) no_region (omega arith) })

sections_number : (cell : CellConfig) (d : PciDevice) → d.shmem_regions_start + (2 + d.shmem_peers) ≤ length cell.memory_regions → length (sections_of cell.memory_regions d) ≡ 2 + d.shmem_peers
sections_number cell d all =
    let rest = drop d.shmem_regions_start cell.memory_regions in
    let e = length-take (section_count d) rest in
    let f = length-drop d.shmem_regions_start cell.memory_regions in
    omega arith

sections_few : (regions : List Region) (d : PciDevice) → length (sections_of regions d) ≤ 2 + d.shmem_peers
sections_few regions d = let e = length-take (section_count d) (drop d.shmem_regions_start regions) in omega arith

-- ---- the state table

table_at : (xs : List Region) (x : Region) → has_good_table xs ≡ true → slice_get xs 0 ≡ Some x → is_good_table x ≡ true
table_at [] x t h = absurd (false≢true t)
table_at (y ∷ ys) x t h = let e : y ≡ x = cc in subst (λ z. is_good_table z ≡ true) e t

table_from : (xs : List Region) (x : Region) → slice_get xs 0 ≡ Some x → is_good_table x ≡ true → has_good_table xs ≡ true
table_from [] x h t = cc
table_from (y ∷ ys) x h t = let e : x ≡ y = cc in subst (λ z. is_good_table z ≡ true) e t

table_parts : (x : Region) → is_good_table x ≡ true → IsStateTable x
table_parts x t =
    let last = has_flags 0x1 x && not (has_flags 0x2 x) in
    let p = and_parts (nat_le 4096 x.size) (nat_le x.size 65536 && last) t in
    let q = and_parts (nat_le x.size 65536) last p.1 in
    let u = and_parts (has_flags 0x1 x) (not (has_flags 0x2 x)) q.1 in
    record { some = leb-true 4096 x.size p.0; few = leb-true x.size 65536 q.0; read = u.0; no_write = not-true (has_flags 0x2 x) u.1 }

table_whole : (x : Region) → IsStateTable x → is_good_table x ≡ true
table_whole x h =
    let last = has_flags 0x1 x && not (has_flags 0x2 x) in
    and_from (nat_le 4096 x.size) (nat_le x.size 65536 && last) (le-leb 4096 x.size h.some) (
    and_from (nat_le x.size 65536) last (le-leb x.size 65536 h.few) (
    and_from (has_flags 0x1 x) (not (has_flags 0x2 x)) h.read (not_from_false (has_flags 0x2 x) h.no_write)))

-- ---- each section

section_parts : (x : Region) → is_section_region x ≡ true → IsSectionRegion x
section_parts x t =
    let last = not (is_loadable x) && is_page_mapped x in
    let p = and_parts (not (is_comm x)) last t in
    let q = and_parts (not (is_loadable x)) (is_page_mapped x) p.1 in
    record { no_comm = not-true (is_comm x) p.0; no_loadable = not-true (is_loadable x) q.0; pages = q.1 }

section_whole : (x : Region) → IsSectionRegion x → is_section_region x ≡ true
section_whole x h =
    and_from (not (is_comm x)) (not (is_loadable x) && is_page_mapped x) (not_from_false (is_comm x) h.no_comm) (
    and_from (not (is_loadable x)) (is_page_mapped x) (not_from_false (is_loadable x) h.no_loadable) h.pages)

-- ---- output sections

read_only_at : (own peer : ℕ) (xs : List Region) → are_read_only own peer xs ≡ true → (i : ℕ) (x : Region) → slice_get xs i ≡ Some x → peer + i ≢ own → has_flags 0x2 x ≡ false
read_only_at own peer [] t i x h n = cc
read_only_at own peer (y ∷ ys) t zero x h n =
    let e : y ≡ x = cc in
    let f : peer + 0 ≡ peer = omega arith in
    let p = and_parts ((peer == own) || not (has_flags 0x2 y)) (are_read_only own (peer + 1) ys) t in
    elim (or_cases (peer == own) (not (has_flags 0x2 y)) p.0) [
      | inl k ↦ absurd (n (f ∙ eqb-true peer own k))
      | inr k ↦ subst (λ z. has_flags 0x2 z ≡ false) e (not-true (has_flags 0x2 y) k)
    ]
read_only_at own peer (y ∷ ys) t (suc i) x h n =
    let f : (peer + 1) + i ≡ peer + suc i = omega arith in
    let p = and_parts ((peer == own) || not (has_flags 0x2 y)) (are_read_only own (peer + 1) ys) t in
    read_only_at own (peer + 1) ys p.1 i x h (λ e. n (sym f ∙ e))

read_only_from : (own peer : ℕ) (xs : List Region) → ((i : ℕ) (x : Region) → slice_get xs i ≡ Some x → peer + i ≢ own → has_flags 0x2 x ≡ false) → are_read_only own peer xs ≡ true
read_only_from own peer [] h = refl
read_only_from own peer (y ∷ ys) h =
    let f : peer + 0 ≡ peer = omega arith in
    let here : ((peer == own) || not (has_flags 0x2 y)) ≡ true =
    elim (cases_eq peer own) [
      | inl e ↦ or_left (peer == own) (not (has_flags 0x2 y)) (eq-eqb peer own e)
      | inr n ↦ or_right (peer == own) (not (has_flags 0x2 y)) (not_from_false (has_flags 0x2 y) (h 0 y refl (λ e. n (sym f ∙ e))))
    ] in
    and_from ((peer == own) || not (has_flags 0x2 y)) (are_read_only own (peer + 1) ys) here (read_only_from own (peer + 1) ys (λ i x k n. h (suc i) x k (λ e. n (let g : (peer + 1) + i ≡ peer + suc i = omega arith in g ∙ e))))

first_size : (first : Region) (others : List Region) → are_alike (first ∷ others) ≡ true → (i : ℕ) (x : Region) → slice_get (first ∷ others) i ≡ Some x → x.size ≡ first.size
first_size first others t zero x h = let e : x ≡ first = cc in ap (λ (z : Region). z.size) e
first_size first others t (suc i) x h = eqb-true x.size first.size (all_at (λ (other : Region). other.size == first.size) others t i x h)

alike_at : (xs : List Region) → are_alike xs ≡ true → (i j : ℕ) (x y : Region) → slice_get xs i ≡ Some x → slice_get xs j ≡ Some y → x.size ≡ y.size
alike_at [] t i j x y h k = cc
alike_at (first ∷ others) t i j x y h k = first_size first others t i x h ∙ sym (first_size first others t j y k)

alike_from : (xs : List Region) → ((i j : ℕ) (x y : Region) → slice_get xs i ≡ Some x → slice_get xs j ≡ Some y → x.size ≡ y.size) → are_alike xs ≡ true
alike_from [] h = refl
alike_from (first ∷ others) h = all_from (λ (other : Region). other.size == first.size) others (λ i x k. eq-eqb x.size first.size (h (suc i) 0 x first k refl))

-- ---- sections in a row

-- all before that one are past
abbrev AreEmptyTo : List Region → ℕ → Type 0
AreEmptyTo xs k = (i : ℕ) (z : Region) → i < k → slice_get xs i ≡ Some z → z.size ≡ 0

abbrev IsNext : ℕ → List Region → Type 0
IsNext end xs = (k : ℕ) (y : Region) → slice_get xs k ≡ Some y → 0 < y.size → AreEmptyTo xs k → y.virt_start ≡ end

abbrev IsRow : List Region → Type 0
IsRow xs =
    (j k : ℕ) (x y : Region) → j < k → slice_get xs j ≡ Some x → slice_get xs k ≡ Some y → 0 < x.size → 0 < y.size → ((i : ℕ) (z : Region) → j < i → i < k → slice_get xs i ≡ Some z → z.size ≡ 0) → y.virt_start ≡ virt_end x

-- a section that is empty, or isn't
abbrev Begins : Region → Bool → Bool → Type 0
Begins s skipped taken = ((s.size ≡ 0) × (skipped ≡ true)) ⊎ ((0 < s.size) × (taken ≡ true))

begins : (s : Region) (skipped taken : Bool) → (if s.size == 0 then skipped else taken) ≡ true → Begins s skipped taken
begins s skipped taken t =
    elim (cases_Bool (s.size == 0)) [
      | inl e ↦ inl (eqb-true s.size 0 e, sym (ap (λ b. if b then skipped else taken) e) ∙ t)
      | inr e ↦ let n = eqb-false s.size 0 e in inr (omega arith, sym (ap (λ b. if b then skipped else taken) e) ∙ t)
    ]

skips : (s : Region) (skipped taken : Bool) → s.size ≡ 0 → skipped ≡ true → (if s.size == 0 then skipped else taken) ≡ true
skips s skipped taken z t = ap (λ b. if b then skipped else taken) (eq-eqb s.size 0 z) ∙ t

takes : (s : Region) (skipped taken : Bool) → 0 < s.size → taken ≡ true → (if s.size == 0 then skipped else taken) ≡ true
takes s skipped taken l t = ap (λ b. if b then skipped else taken) (ne_eqb s.size 0 (λ e. omega arith)) ∙ t

next_skip : (end : ℕ) (s : Region) (ss : List Region) → s.size ≡ 0 → IsNext end ss → IsNext end (s ∷ ss)
next_skip end s ss z next zero y h some before = let e : s ≡ y = cc in let f : s.size ≡ y.size = ap (λ (v : Region). v.size) e in absurd (omega arith)
next_skip end s ss z next (suc k) y h some before = next k y h some (λ i v l g. before (suc i) v (omega arith) g)

next_here : (end : ℕ) (s : Region) (ss : List Region) → 0 < s.size → s.virt_start ≡ end → IsNext end (s ∷ ss)
next_here end s ss l e zero y h some before = let f : y ≡ s = cc in ap (λ (v : Region). v.virt_start) f ∙ e
next_here end s ss l e (suc k) y h some before = let z = before 0 s (omega arith) refl in absurd (omega arith)

next_at : (end : ℕ) (xs : List Region) → follows end xs ≡ true → IsNext end xs
next_at end [] t = λ k y h some before. cc
next_at end (s ∷ ss) t =
    elim (begins s (follows end ss) ((s.virt_start == end) && follows (virt_end s) ss) t) [
      | inl p ↦ next_skip end s ss p.0 (next_at end ss p.1)
      | inr p ↦ next_here end s ss p.0 (eqb-true s.virt_start end (and_parts (s.virt_start == end) (follows (virt_end s) ss) p.1).0)
    ]

row_skip : (s : Region) (ss : List Region) → s.size ≡ 0 → IsRow ss → IsRow (s ∷ ss)
row_skip s ss z row zero k x y l h g some some' between = let e : s ≡ x = cc in let f : s.size ≡ x.size = ap (λ (v : Region). v.size) e in absurd (omega arith)
row_skip s ss z row (suc j) zero x y l h g some some' between = absurd (omega arith)
row_skip s ss z row (suc j) (suc k) x y l h g some some' between = row j k x y (omega arith) h g some some' (λ i v m n u. between (suc i) v (omega arith) (omega arith) u)

row_here : (s : Region) (ss : List Region) → IsNext (virt_end s) ss → IsRow ss → IsRow (s ∷ ss)
row_here s ss next row zero zero x y l h g some some' between = absurd (omega arith)
row_here s ss next row zero (suc k) x y l h g some some' between =
    let e : s ≡ x = cc in
    next k y g some' (λ i v m u. between (suc i) v (omega arith) (omega arith) u) ∙ ap (λ (v : Region). virt_end v) e
row_here s ss next row (suc j) zero x y l h g some some' between = absurd (omega arith)
row_here s ss next row (suc j) (suc k) x y l h g some some' between = row j k x y (omega arith) h g some some' (λ i v m n u. between (suc i) v (omega arith) (omega arith) u)

row_follows : (end : ℕ) (xs : List Region) → follows end xs ≡ true → IsRow xs
row_follows end [] t = λ j k x y l h g some some' between. cc
row_follows end (s ∷ ss) t =
    elim (begins s (follows end ss) ((s.virt_start == end) && follows (virt_end s) ss) t) [
      | inl p ↦ row_skip s ss p.0 (row_follows end ss p.1)
      | inr p ↦
          let q = and_parts (s.virt_start == end) (follows (virt_end s) ss) p.1 in
          row_here s ss (next_at (virt_end s) ss q.1) (row_follows (virt_end s) ss q.1)
    ]

row_at : (xs : List Region) → are_in_a_row xs ≡ true → IsRow xs
row_at [] t = λ j k x y l h g some some' between. cc
row_at (s ∷ ss) t =
    elim (begins s (are_in_a_row ss) (follows (virt_end s) ss) t) [
      | inl p ↦ row_skip s ss p.0 (row_at ss p.1)
      | inr p ↦ row_here s ss (next_at (virt_end s) ss p.1) (row_follows (virt_end s) ss p.1)
    ]

-- what is said of a list, said of it without its first
next_rest : (end : ℕ) (s : Region) (ss : List Region) → s.size ≡ 0 → IsNext end (s ∷ ss) → IsNext end ss
next_rest end s ss z next k y h some before =
    let all : AreEmptyTo (s ∷ ss) (suc k) = λ i v l g. first i v l g in
    next (suc k) y h some all
  where
    first : AreEmptyTo (s ∷ ss) (suc k)
    first zero v l g = let e : v ≡ s = cc in ap (λ (w : Region). w.size) e ∙ z
    first (suc i) v l g = before i v (omega arith) g

row_rest : (s : Region) (ss : List Region) → IsRow (s ∷ ss) → IsRow ss
row_rest s ss row j k x y l h g some some' between = row (suc j) (suc k) x y (omega arith) h g some some' inner
  where
    inner : (i : ℕ) (z : Region) → suc j < i → i < suc k → slice_get (s ∷ ss) i ≡ Some z → z.size ≡ 0
    inner zero z m n u = absurd (omega arith)
    inner (suc i) z m n u = between i z (omega arith) (omega arith) u

next_row : (s : Region) (ss : List Region) → 0 < s.size → IsRow (s ∷ ss) → IsNext (virt_end s) ss
next_row s ss l in_order k y h some before = in_order 0 (suc k) s y (omega arith) refl h l some inner
  where
    inner : (i : ℕ) (z : Region) → 0 < i → i < suc k → slice_get (s ∷ ss) i ≡ Some z → z.size ≡ 0
    inner zero z m n u = absurd (omega arith)
    inner (suc i) z m n u = before i z (omega arith) u

follows_from : (end : ℕ) (xs : List Region) → IsNext end xs → IsRow xs → follows end xs ≡ true
follows_from end [] next row = refl
follows_from end (s ∷ ss) next row =
    let skipped = follows end ss in
    let taken = (s.virt_start == end) && follows (virt_end s) ss in
    elim (cases_eq s.size 0) [
      | inl z ↦ skips s skipped taken z (follows_from end ss (next_rest end s ss z next) (row_rest s ss row))
      | inr n ↦
          let l : 0 < s.size = omega arith in
          let e : s.virt_start ≡ end = next 0 s refl l (λ i v m g. absurd (omega arith)) in
          takes s skipped taken l (and_from (s.virt_start == end) (follows (virt_end s) ss) (eq-eqb s.virt_start end e) (follows_from (virt_end s) ss (next_row s ss l row) (row_rest s ss row)))
    ]

row_from : (xs : List Region) → IsRow xs → are_in_a_row xs ≡ true
row_from [] row = refl
row_from (s ∷ ss) row =
    elim (cases_eq s.size 0) [
      | inl z ↦ skips s (are_in_a_row ss) (follows (virt_end s) ss) z (row_from ss (row_rest s ss row))
      | inr n ↦
          let l : 0 < s.size = omega arith in
          takes s (are_in_a_row ss) (follows (virt_end s) ss) l (follows_from (virt_end s) ss (next_row s ss l row) (row_rest s ss row))
    ]

-- ---- one device

sound_from : (cell : CellConfig) (d : PciDevice) → has_good_peers d ≡ true → has_good_bars d ≡ true → has_all_sections cell.memory_regions d ≡ true → has_good_sections d (sections_of cell.memory_regions d) ≡ true → IsGoodDevice cell d
sound_from cell d peers bars all sound =
    let xs = sections_of cell.memory_regions d in
    let p = and_parts (nat_le 2 d.shmem_peers) (nat_le d.shmem_peers 16 && nat_lt d.shmem_dev_id d.shmem_peers) peers in
    let q = and_parts (nat_le d.shmem_peers 16) (nat_lt d.shmem_dev_id d.shmem_peers) p.1 in
    let u = and_parts (nat_le d.num_msix_vectors 16) (pointwise nat_eq d.bar_mask (bars_of d)) bars in
    let last = are_alike (drop 2 xs) && are_in_a_row xs in
    let third = are_read_only d.shmem_dev_id 0 (drop 2 xs) && last in
    let v = and_parts (has_good_table xs) (list_all is_section_region xs && third) sound in
    let w = and_parts (list_all is_section_region xs) third v.1 in
    let y = and_parts (are_read_only d.shmem_dev_id 0 (drop 2 xs)) last w.1 in
    let z = and_parts (are_alike (drop 2 xs)) (are_in_a_row xs) y.1 in
    record {
      peers = leb-true 2 d.shmem_peers p.0;
      few = leb-true d.shmem_peers 16 q.0;
      own = ltb-true d.shmem_dev_id d.shmem_peers q.1;
      vectors = leb-true d.num_msix_vectors 16 u.0;
      bars = (bytes_eq-Decides d.bar_mask (bars_of d)).0 u.1;
      exist = leb-true (d.shmem_regions_start + section_count d) (length cell.memory_regions) all;
      table = λ x h. table_parts x (table_at xs x v.0 (section_in cell d 0 x h));
      sections = λ k x h. section_parts x (all_at is_section_region xs w.0 k x (section_in cell d k x h));
      read_only = λ k x n h. read_only_at d.shmem_dev_id 0 (drop 2 xs) y.0 k x (output_in cell d k x h) (λ e. n (let f : k ≡ 0 + k = omega arith in f ∙ e));
      alike = λ i j x x' h h'. alike_at (drop 2 xs) z.0 i j x x' (output_in cell d i x h) (output_in cell d j x' h');
      row = λ j k x x' l h h' some some' between. row_at xs z.1 j k x x' l (section_in cell d j x h) (section_in cell d k x' h') some some' (λ i t m n g. between i t m n (in_section cell d i t g));
    }

sound_peers : (cell : CellConfig) (d : PciDevice) → IsGoodDevice cell d → has_good_peers d ≡ true
sound_peers cell d g =
    and_from (nat_le 2 d.shmem_peers) (nat_le d.shmem_peers 16 && nat_lt d.shmem_dev_id d.shmem_peers) (le-leb 2 d.shmem_peers g.peers) (
    and_from (nat_le d.shmem_peers 16) (nat_lt d.shmem_dev_id d.shmem_peers) (le-leb d.shmem_peers 16 g.few) (lt-ltb d.shmem_dev_id d.shmem_peers g.own))

sound_bars : (cell : CellConfig) (d : PciDevice) → IsGoodDevice cell d → has_good_bars d ≡ true
sound_bars cell d g =
    let same : pointwise nat_eq d.bar_mask (bars_of d) ≡ true = subst (λ xs. pointwise nat_eq d.bar_mask xs ≡ true) g.bars (themselves d.bar_mask) in
    and_from (nat_le d.num_msix_vectors 16) (pointwise nat_eq d.bar_mask (bars_of d)) (le-leb d.num_msix_vectors 16 g.vectors) same

sound_sections : (cell : CellConfig) (d : PciDevice) → IsGoodDevice cell d → has_good_sections d (sections_of cell.memory_regions d) ≡ true
sound_sections cell d g =
    let xs = sections_of cell.memory_regions d in
    let first = section_exists cell d 0 g.exist (omega arith) in
    let last = are_alike (drop 2 xs) && are_in_a_row xs in
    let third = are_read_only d.shmem_dev_id 0 (drop 2 xs) && last in
    let table = table_from xs first.0 (section_in cell d 0 first.0 first.1) (table_whole first.0 (g.table first.0 first.1)) in
    let plain = all_from is_section_region xs (λ k x h. section_whole x (g.sections k x (in_section cell d k x h))) in
    let read_only = read_only_from d.shmem_dev_id 0 (drop 2 xs) (λ k x h n. g.read_only k x (λ e. n (let f : 0 + k ≡ k = omega arith in f ∙ e)) (in_output cell d k x h)) in
    let alike = alike_from (drop 2 xs) (λ i j x y h k. g.alike i j x y (in_output cell d i x h) (in_output cell d j y k)) in
    let row = row_from xs (λ j k x y l h h' some some' between. g.row j k x y l (in_section cell d j x h) (in_section cell d k y h') some some' (λ i z m n u. between i z m n (section_in cell d i z u))) in
    and_from (has_good_table xs) (list_all is_section_region xs && third) table (
    and_from (list_all is_section_region xs) third plain (
    and_from (are_read_only d.shmem_dev_id 0 (drop 2 xs)) last read_only (
    and_from (are_alike (drop 2 xs)) (are_in_a_row xs) alike row)))

-- ---- linked devices

linked_whole : (d e : PciDevice) → AreLinked d e → are_linked d e ≡ true
linked_whole d e h =
    and_from (d.kind == 3) ((e.kind == 3) && (d.bdf == e.bdf)) (eq-eqb d.kind 3 h.one_kind) (
    and_from (e.kind == 3) (d.bdf == e.bdf) (eq-eqb e.kind 3 h.other_kind) (eq-eqb d.bdf e.bdf h.bdf))

linked_parts : (d e : PciDevice) → are_linked d e ≡ true → AreLinked d e
linked_parts d e t =
    let p = and_parts (d.kind == 3) ((e.kind == 3) && (d.bdf == e.bdf)) t in
    let q = and_parts (e.kind == 3) (d.bdf == e.bdf) p.1 in
    record { one_kind = eqb-true d.kind 3 p.0; other_kind = eqb-true e.kind 3 q.0; bdf = eqb-true d.bdf e.bdf q.1 }

same_parts : (x y : Region) → is_same_memory x y ≡ true → (x.size ≡ y.size) × (0 < x.size → x.phys_start ≡ y.phys_start)
same_parts x y t =
    let p = and_parts (x.size == y.size) ((x.size == 0) || (x.phys_start == y.phys_start)) t in (
      eqb-true x.size y.size p.0,
      λ l. elim (or_cases (x.size == 0) (x.phys_start == y.phys_start) p.1) [
        | inl z ↦ let e = eqb-true x.size 0 z in absurd (omega arith)
        | inr e ↦ eqb-true x.phys_start y.phys_start e
      ],
    )

same_whole : (x y : Region) → x.size ≡ y.size → (0 < x.size → x.phys_start ≡ y.phys_start) → is_same_memory x y ≡ true
same_whole x y e h =
    let place : ((x.size == 0) || (x.phys_start == y.phys_start)) ≡ true =
    elim (cases_eq x.size 0) [
      | inl z ↦ or_left (x.size == 0) (x.phys_start == y.phys_start) (eq-eqb x.size 0 z)
      | inr n ↦ or_right (x.size == 0) (x.phys_start == y.phys_start) (eq-eqb x.phys_start y.phys_start (h (omega arith)))
    ] in
    and_from (x.size == y.size) ((x.size == 0) || (x.phys_start == y.phys_start)) (eq-eqb x.size y.size e) place

agrees_from : (one : CellConfig) (d : PciDevice) (other : CellConfig) (e : PciDevice) → agrees_with one.memory_regions d other.memory_regions e ≡ true → AreLinked d e → AgreesWith one d other e
agrees_from one d other e t linked =
    let xs = sections_of one.memory_regions d in
    let ys = sections_of other.memory_regions e in
    let last = not (d.shmem_dev_id == e.shmem_dev_id) && are_same_memory xs ys in
    let rest = (d.shmem_peers == e.shmem_peers) && last in
    let agree : rest ≡ true =
    elim (or_cases (not (are_linked d e)) rest t) [
      | inl n ↦ absurd (both_ways (are_linked d e) (not-true (are_linked d e) n) (linked_whole d e linked))
      | inr k ↦ k
    ] in
    let p = and_parts (d.shmem_peers == e.shmem_peers) last agree in
    let q = and_parts (not (d.shmem_dev_id == e.shmem_dev_id)) (are_same_memory xs ys) p.1 in
    record {
      peers = eqb-true d.shmem_peers e.shmem_peers p.0;
      numbers = eqb-false d.shmem_dev_id e.shmem_dev_id (not-true (d.shmem_dev_id == e.shmem_dev_id) q.0);
      memory = λ k x h.
          let r = like_at is_same_memory xs ys q.1 k x (section_in one d k x h) in
          let s = same_parts x r.0 r.2 in
          (r.0, in_section other e k r.0 r.1, s.0, s.1);
    }

agrees_whole : (one : CellConfig) (d : PciDevice) (other : CellConfig) (e : PciDevice) → IsGoodDevice one d → AgreesWith one d other e → agrees_with one.memory_regions d other.memory_regions e ≡ true
agrees_whole one d other e sound g =
    let xs = sections_of one.memory_regions d in
    let ys = sections_of other.memory_regions e in
    let last = not (d.shmem_dev_id == e.shmem_dev_id) && are_same_memory xs ys in
    let rest = (d.shmem_peers == e.shmem_peers) && last in
    let some = sections_number one d sound.exist in
    let few = sections_few other.memory_regions e in
    let peers = g.peers in
    let same : are_same_memory xs ys ≡ true =
    like_from is_same_memory xs ys (λ k x h.
    let m = g.memory k x (in_section one d k x h) in
    (m.0, section_in other e k m.0 m.1, same_whole x m.0 m.2 m.3)) (omega arith) in
    or_right (not (are_linked d e)) rest (
    and_from (d.shmem_peers == e.shmem_peers) last (eq-eqb d.shmem_peers e.shmem_peers g.peers) (
    and_from (not (d.shmem_dev_id == e.shmem_dev_id)) (are_same_memory xs ys) (not_from_false (d.shmem_dev_id == e.shmem_dev_id) (ne_eqb d.shmem_dev_id e.shmem_dev_id g.numbers)) same))

-- ---- all devices

abbrev pub DevicesHold : List CellConfig → Type 0
DevicesHold all =
    (a : ℕ) (one : CellConfig) (n : ℕ) (d : PciDevice) → slice_get all a ≡ Some one → slice_get one.pci_devices n ≡ Some d → device_breaks (take a all) one (take n one.pci_devices) d ≡ true → ⊥

-- an ivshmem device breaks none of its rules
good_at : (all : List CellConfig) → DevicesHold all → (a : ℕ) (one : CellConfig) (n : ℕ) (d : PciDevice) → slice_get all a ≡ Some one → slice_get one.pci_devices n ≡ Some d → IsShmem d → is_good_shmem (take a all) one (take n one.pci_devices) d ≡ true
unfolding device_breaks
good_at all h a one n d na i kind =
    let good = is_good_shmem (take a all) one (take n one.pci_devices) d in
    not-false good (and_rest (is_shmem d) (not good) (h a one n d na i) (eq-eqb d.kind 3 kind))

-- the six parts of them
abbrev GoodParts : List CellConfig → CellConfig → List PciDevice → PciDevice → Type 0
GoodParts lower cell earlier d =
    (has_good_peers d ≡ true) × (has_good_bars d ≡ true) × (has_all_sections cell.memory_regions d ≡ true) × (has_good_sections d (sections_of cell.memory_regions d) ≡ true) × (is_twice earlier d ≡ false) × (agrees_with_all lower cell.memory_regions d ≡ true)

good_parts : (lower : List CellConfig) (cell : CellConfig) (earlier : List PciDevice) (d : PciDevice) → is_good_shmem lower cell earlier d ≡ true → GoodParts lower cell earlier d
good_parts lower cell earlier d t =
    let regions = cell.memory_regions in
    let e5 = not (is_twice earlier d) && agrees_with_all lower regions d in
    let e4 = has_good_sections d (sections_of regions d) && e5 in
    let e3 = has_all_sections regions d && e4 in
    let e2 = has_good_bars d && e3 in
    let p1 = and_parts (has_good_peers d) e2 t in
    let p2 = and_parts (has_good_bars d) e3 p1.1 in
    let p3 = and_parts (has_all_sections regions d) e4 p2.1 in
    let p4 = and_parts (has_good_sections d (sections_of regions d)) e5 p3.1 in
    let p5 = and_parts (not (is_twice earlier d)) (agrees_with_all lower regions d) p4.1 in
    (p1.0, p2.0, p3.0, p4.0, not-true (is_twice earlier d) p5.0, p5.1)

good_whole : (lower : List CellConfig) (cell : CellConfig) (earlier : List PciDevice) (d : PciDevice) → GoodParts lower cell earlier d → is_good_shmem lower cell earlier d ≡ true
good_whole lower cell earlier d p =
    let regions = cell.memory_regions in
    let e5 = not (is_twice earlier d) && agrees_with_all lower regions d in
    let e4 = has_good_sections d (sections_of regions d) && e5 in
    let e3 = has_all_sections regions d && e4 in
    let e2 = has_good_bars d && e3 in
    and_from (has_good_peers d) e2 p.0 (
    and_from (has_good_bars d) e3 p.1 (
    and_from (has_all_sections regions d) e4 p.2 (
    and_from (has_good_sections d (sections_of regions d)) e5 p.3 (
    and_from (not (is_twice earlier d)) (agrees_with_all lower regions d) (not_from_false (is_twice earlier d) p.4) p.5))))

-- an earlier device at the same place
twice : (cell : CellConfig) (m n : ℕ) (one other : PciDevice) → m < n → IsDevice cell m one → AreLinked one other → is_twice (take n cell.pci_devices) other ≡ true
twice cell m n one other l i linked =
    any_at (λ (e : PciDevice). is_shmem e && (e.bdf == other.bdf)) (take n cell.pci_devices) m one (take_get n cell.pci_devices m one l i) (and_from (is_shmem one) (one.bdf == other.bdf) (eq-eqb one.kind 3 linked.one_kind) (eq-eqb one.bdf other.bdf linked.bdf))

turned : (one other : PciDevice) → AreLinked one other → AreLinked other one
turned one other h = record { one_kind = h.other_kind; other_kind = h.one_kind; bdf = sym h.bdf }

-- what one device's rules say, in words and by tests
pub words_good : (all : List CellConfig) (a : ℕ) (cell : CellConfig) (n : ℕ) (d : PciDevice) → IsShmem d → IsGoodDevice cell d → IsConsistentAmong all a cell n d → is_good_shmem (take a all) cell (take n cell.pci_devices) d ≡ true
words_good all a cell n d kind g among =
    let regions = cell.memory_regions in
    let earlier = take n cell.pci_devices in
    let once : is_twice earlier d ≡ false = false_from_ne_true (is_twice earlier d) (λ u.
    let w = any_of (λ (e : PciDevice). is_shmem e && (e.bdf == d.bdf)) earlier u in
    let v = get_take n cell.pci_devices w.0 w.1 w.2 in
    let k = and_parts (is_shmem w.1) (w.1.bdf == d.bdf) w.3 in
    let linked : AreLinked w.1 d = record { one_kind = eqb-true w.1.kind 3 k.0; other_kind = kind; bdf = eqb-true w.1.bdf d.bdf k.1 } in
    among.single w.0 w.1 v.0 v.1 linked) in
    let agrees : agrees_with_all (take a all) regions d ≡ true =
    all_from (λ (lower : CellConfig). list_all (λ (f : PciDevice). agrees_with regions d lower.memory_regions f) lower.pci_devices) (take a all) (λ b other h.
    let v = get_take a all b other h in
    all_from (λ (f : PciDevice). agrees_with regions d other.memory_regions f) other.pci_devices (λ m e j.
    elim (cases_Bool (are_linked d e)) [
      | inl u ↦ agrees_whole cell d other e g (among.links b other v.0 v.1 m e j (linked_parts d e u))
      | inr u ↦ or_left (not (are_linked d e)) ((d.shmem_peers == e.shmem_peers) && (not (d.shmem_dev_id == e.shmem_dev_id) && are_same_memory (sections_of regions d) (sections_of other.memory_regions e))) (not_from_false (are_linked d e) u)
    ])) in
    good_whole (take a all) cell earlier d (sound_peers cell d g, sound_bars cell d g, le-leb (d.shmem_regions_start + section_count d) (length regions) g.exist, sound_sections cell d g, once, agrees)

pub good_words : (all : List CellConfig) (a : ℕ) (cell : CellConfig) (n : ℕ) (d : PciDevice) → IsShmem d → is_good_shmem (take a all) cell (take n cell.pci_devices) d ≡ true → IsGoodDevice cell d × IsConsistentAmong all a cell n d
good_words all a cell n d kind t =
    let p = good_parts (take a all) cell (take n cell.pci_devices) d t in
    let inner = λ (lower : CellConfig). list_all (λ (f : PciDevice). agrees_with cell.memory_regions d lower.memory_regions f) lower.pci_devices in (
      sound_from cell d p.0 p.1 p.2 p.3,
      record {
        single = λ m other l i linked. both_ways (is_twice (take n cell.pci_devices) d) p.4 (twice cell m n other d l i linked);
        links = λ b other below nb m e j linked.
            let q : inner other ≡ true = all_at inner (take a all) p.5 b other (take_get a all b other below nb) in
            agrees_from cell d other e (all_at (λ (f : PciDevice). agrees_with cell.memory_regions d other.memory_regions f) other.pci_devices q m e j) linked;
      },
    )

pub devices_from : (system : SystemConfig) (cells : List CellConfig) → DevicesHold (system.root ∷ cells) → DevicesAreGood system cells
devices_from system cells h a cell na n d i kind =
    let all = system.root ∷ cells in
    (good_words all a cell n d kind (good_at all h a cell n d na i kind)).0

pub single_from : (system : SystemConfig) (cells : List CellConfig) → DevicesHold (system.root ∷ cells) → DevicesAreSingle system cells
single_from system cells h a cell na m n one other i j linked =
    let all = system.root ∷ cells in
    elim (cases_order m n) [
      | inl same ↦ same
      | inr (inl l) ↦
          let w = (good_words all a cell n other linked.other_kind (good_at all h a cell n other na j linked.other_kind)).1 in
          absurd (w.single m one l i linked)
      | inr (inr l) ↦
          let w = (good_words all a cell m one linked.one_kind (good_at all h a cell m one na i linked.one_kind)).1 in
          absurd (w.single n other l j (turned one other linked))
    ]

pub links_from : (system : SystemConfig) (cells : List CellConfig) → DevicesHold (system.root ∷ cells) → LinksAgree system cells
links_from system cells h a b one other below na nb m n d e i j linked =
    let all = system.root ∷ cells in
    let w = (good_words all a one m d linked.one_kind (good_at all h a one m d na i linked.one_kind)).1 in
    w.links b other below nb n e j linked

pub devices_to : (system : SystemConfig) (cells : List CellConfig) → DevicesAreGood system cells → DevicesAreSingle system cells → LinksAgree system cells → DevicesHold (system.root ∷ cells)
unfolding device_breaks
devices_to system cells sound single links a one n d na i t =
    let all = system.root ∷ cells in
    let good = is_good_shmem (take a all) one (take n one.pci_devices) d in
    let p = and_parts (is_shmem d) (not good) t in
    let kind = eqb-true d.kind 3 p.0 in
    let among : IsConsistentAmong all a one n d = record {
      single = λ m other l j linked. let same : m ≡ n = single a one na m n other d j i linked in omega arith;
      links = λ b other below nb m e j linked. links a b one other below na nb n m d e i j linked;
    } in
    both_ways good (not-true good p.1) (words_good all a one n d kind (sound a one na n d i kind) among)

-- ---- CPU sets

abbrev pub CpusHold : List CellConfig → Type 0
CpusHold all = (a : ℕ) (one : CellConfig) → slice_get all a ≡ Some one → cpus_break one.cpu_set ≡ true → ⊥

-- a list that isn't all zero has a byte that isn't
pub some_byte : (set : List ℕ) → list_all is_zero set ≡ false → (i : ℕ) × (get_or set i 0 ≢ 0)
some_byte [] h = absurd (false≢true (sym h))
some_byte (zero ∷ set) h = let rest = some_byte set h in (suc (rest.0), rest.1)
some_byte (suc b ∷ set) h = (0, λ e. cc)

-- each byte of a list that is all zero is
pub each_zero : (set : List ℕ) → list_all is_zero set ≡ true → (i : ℕ) → get_or set i 0 ≡ 0
each_zero [] h i = refl
each_zero (b ∷ set) h zero = eqb-true b 0 (and_parts (is_zero b) (list_all is_zero set) h).0
each_zero (b ∷ set) h (suc i) = each_zero set (and_parts (is_zero b) (list_all is_zero set) h).1 i

pub bitmap_from : (set : List ℕ) → (cpus_break set ≡ true → ⊥) → IsSoundBitmap set
unfolding cpus_break
bitmap_from set h =
    let none = list_all is_zero set in
    let high = list_all is_zero (drop 2 set) in
    let p = or_parts none (not high) (false_from_ne_true (none || not high) h) in
    record {
      some = some_byte set p.0;
      few = λ i l.
          let place : 2 + (i - 2) ≡ i = omega arith in
          subst (λ m. get_or set m 0 ≡ 0) place (sym (get_or-drop 2 set (i - 2) 0) ∙ each_zero (drop 2 set) (not-false high p.1) (i - 2));
    }

pub bitmap_to : (set : List ℕ) → IsSoundBitmap set → cpus_break set ≡ true → ⊥
unfolding cpus_break
bitmap_to set h t =
    let none = list_all is_zero set in
    let high = list_all is_zero (drop 2 set) in
    elim (or_cases none (not high) t) [
      | inl e ↦ let s = h.some in s.1 (each_zero set e s.0)
      | inr e ↦ let s = some_byte (drop 2 set) (not-true high e) in s.1 (get_or-drop 2 set s.0 0 ∙ h.few (2 + s.0) (omega arith))
    ]

pub cpus_from : (system : SystemConfig) (cells : List CellConfig) → CpusHold (system.root ∷ cells) → CpusAreFew system cells
cpus_from system cells h a cell n = bitmap_from cell.cpu_set (h a cell n)

pub cpus_to : (system : SystemConfig) (cells : List CellConfig) → CpusAreFew system cells → CpusHold (system.root ∷ cells)
cpus_to system cells h a cell n t = bitmap_to cell.cpu_set (h a cell n) t
