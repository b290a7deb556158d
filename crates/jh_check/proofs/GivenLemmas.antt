-- What is clean gives of root, of pages, of CPU sets and of devices.
use Rattle.std.proofs.Common.{◌≡◌, ◌≢◌, ℕ, ◌+◌, ◌-◌, ◌*◌, ◌/◌, ◌%◌, ◌^◌, ◌<◌, ◌≤◌, true, false, not, ◌==◌, nat_lt, nat_le, List, length, get_or, bit_and, w8, Some, slice_get, refl, sym, ap, subst, inl, inr, ◌∙◌, arith}
use Rattle.std.specs.Int.{trailing_zeros, bit_at}
use Rattle.std.specs.Int.Bits.{and_zero_l}
use Rattle.std.proofs.lemmas.Bool.{false≢true, ltb-true, leb-true, lt-ltb, le-leb, eqb-true, ne_eqb, cases_lt, cases_order, cases_Bool, and_parts, and_left, and_from, not-true, not_from_false}
use Rattle.std.proofs.lemmas.Nat.Bits.{and_pow, bit_at-trailing_zeros}
use Rattle.std.proofs.lemmas.Nat.{pow_pos}
use Rattle.std.proofs.lemmas.Option.{slice_get-get_or}
use Rattle.jh_num.specs.declared.address.TheConstants.{PAGE_SIZE}
use Rattle.jh_num.proofs.Public.{same_test}
use Rattle.jh_cellcfg.specs.declared.region.Region.{Region}
use Rattle.jh_cellcfg.specs.declared.config.CellConfig.{CellConfig}
use Rattle.jh_cellcfg.specs.declared.config.SystemConfig.{SystemConfig}
use Rattle.jh_cellcfg.specs.Cells.{is_cpu_set}
use Rattle.jh_cellcfg.specs.Regions.{has_flags, has_address, has_place, place_in, virt_end, phys_end, is_page_mapped, is_comm}
use Rattle.jh_cellcfg.proofs.Public.{has_some}
use Rattle.jh_check.specs.Regions.{both_shared}
use Rattle.jh_check.specs.Laws.{IsItem, CellsAreApart}
use Rattle.jh_check.specs.Clean.{IsClean, IsSoundRegion, IsSoundRoot, PagesAreWhole, IsSoundBitmap, IsSoundCpuSet, AreLinked, EndpointsMayJoin, LinksHaveNumbers}
use Rattle.jh_check.proofs.CleanLemmas.{place_size, same_section_to}
use Rattle.jh_check.proofs.DeviceLemmas.{section_exists}

-- ---- root

pub item_at : (xs : List Region) (k : ℕ) (d : Region) → k < length xs → slice_get xs k ≡ Some (get_or xs k d)
item_at xs k d l = slice_get-get_or xs k d l

sound_region : (system : SystemConfig) (cells : List CellConfig) → IsClean system cells → (k : ℕ) (x : Region) → IsItem system.root k x → 0 < x.size → IsSoundRegion system.platform.hypervisor_memory x
sound_region system cells c k x i some =
    let range = c.within 0 system.root refl k x i some in
    let comm = c.no_comm k x i some in
    record {
      within = record { virt = range.virt; phys = range.phys comm };
      clear = λ place hh hx. c.hypervisor 0 system.root refl k x i comm place hx hh;
      identity = c.identity k x i some;
      no_comm = comm;
      readable = c.readable 0 system.root refl k x i some;
      aligned = c.aligned 0 system.root refl k x i some;
    }

pub sound_root_holds : (system : SystemConfig) (cells : List CellConfig) → IsClean system cells → IsSoundRoot system
sound_root_holds system cells c =
    let xs = system.root.memory_regions in
    record {
      memory = c.memory;
      regions = λ k d l some. sound_region system cells c k (get_or xs k d) (item_at xs k d l) some;
      addresses = λ i j d l within at hx hy.
          let first : i < length xs = omega arith in
          let same : i ≡ j = c.addresses 0 system.root refl i j (get_or xs i d) (get_or xs j d) (item_at xs i d first) (item_at xs j d within) at hx hy in
          omega arith;
      places = λ i j d l within place hx hy.
          let first : i < length xs = omega arith in
          let x = get_or xs i d in
          let y = get_or xs j d in
          let ix = item_at xs i d first in
          let iy = item_at xs j d within in
          let cx = c.no_comm i x ix (ltb-true 0 x.size (place_size x place hx)) in
          let cy = c.no_comm j y iy (ltb-true 0 y.size (place_size y place hy)) in
          let same : i ≡ j = c.places 0 system.root refl i j x y ix iy cx cy place hx hy in
          omega arith;
    }

-- ---- pages

-- whole pages of places have all places of a page or none
page_of : (start size page j k : ℕ) → start % 4096 ≡ 0 → size % 4096 ≡ 0 → page % 4096 ≡ 0 → j < 4096 → k < 4096 → start ≤ page + j → page + j < start + size → (start ≤ page + k) × (page + k < start + size)
page_of start size page j k a b c l m h i = (omega arith, omega arith)

whole_from : (x : Region) (page j k : ℕ) → x.phys_start % 4096 ≡ 0 → x.size % 4096 ≡ 0 → page % 4096 ≡ 0 → j < 4096 → k < 4096 → has_place x (page + j) ≡ true → has_place x (page + k) ≡ true
whole_from x page j k a b c l m t =
    let p = and_parts (nat_le x.phys_start (page + j)) (nat_lt (page + j) (phys_end x)) t in
    let q = page_of x.phys_start x.size page j k a b c l m (leb-true x.phys_start (page + j) p.0) (ltb-true (page + j) (phys_end x) p.1) in
    and_from (nat_le x.phys_start (page + k)) (nat_lt (page + k) (phys_end x)) (le-leb x.phys_start (page + k) q.0) (lt-ltb (page + k) (phys_end x) q.1)

-- the place of an address that begins a page, and the places behind it
page_at : (start virt size at : ℕ) → start % 4096 ≡ 0 → virt % 4096 ≡ 0 → virt ≤ at → at % 4096 ≡ 0 → (start + (at - virt)) % 4096 ≡ 0
page_at start virt size at a b l c = omega arith

page_within : (start virt size at j : ℕ) → virt % 4096 ≡ 0 → size % 4096 ≡ 0 → virt ≤ at → at < virt + size → at % 4096 ≡ 0 → j < 4096 → start + (at - virt) + j < start + size
page_within start virt size at j a b l m c k = omega arith

-- the parts of a page-mapped region
mapped_parts : (y : Region) → is_page_mapped y ≡ true → (y.virt_start % 4096 ≡ 0) × (y.size % 4096 ≡ 0)
mapped_parts y t =
    let p = and_parts (y.virt_start % PAGE_SIZE == 0) (y.size % PAGE_SIZE == 0) t in
    (eqb-true (y.virt_start % PAGE_SIZE) 0 p.0, eqb-true (y.size % PAGE_SIZE) 0 p.1)

-- all places of the page are the region's
page_places : (y : Region) (at j : ℕ) → is_page_mapped y ≡ true → at % 4096 ≡ 0 → has_address y at ≡ true → j < 4096 → has_place y (place_in y at + j) ≡ true
page_places y at j mapped even h l =
    let m = mapped_parts y mapped in
    let p = and_parts (nat_le y.virt_start at) (nat_lt at (virt_end y)) h in
    let p0 = leb-true y.virt_start at p.0 in
    let p1 = ltb-true at (virt_end y) p.1 in
    let end = page_within y.phys_start y.virt_start y.size at j m.0 m.1 p0 p1 even l in
    and_from (nat_le y.phys_start (place_in y at + j)) (nat_lt (place_in y at + j) (phys_end y)) (le-leb y.phys_start (place_in y at + j) (omega arith)) (lt-ltb (place_in y at + j) (phys_end y) end)

pub whole_pages : (system : SystemConfig) (cells : List CellConfig) → IsClean system cells → PagesAreWhole system cells
whole_pages system cells c a cell above n r s x y ir is own mapped at even h j k jl kl =
    let page = place_in y at in
    let some = has_some y at h in
    let m = mapped_parts y mapped in
    let p = and_parts (nat_le y.virt_start at) (nat_lt at (virt_end y)) h in
    let places : y.phys_start % 4096 ≡ 0 = c.aligned 0 system.root refl s y is some mapped (c.no_comm s y is some) in
    let begins : page % 4096 ≡ 0 = page_at y.phys_start y.virt_start y.size at places m.0 (leb-true y.virt_start at p.0) even in
    let plain : is_comm x ≡ false = not-true (is_comm x) (and_parts (not (is_comm x)) (not (has_flags 0x80 x)) own).0 in
    let moves = λ (i l : ℕ) (il : i < 4096) (ll : l < 4096) (t : has_place x (page + i) ≡ true).
    let one : has_place x (page + l) ≡ true = elim (cases_Bool (is_page_mapped x)) [
      | inl e ↦
          let q = mapped_parts x e in
          let b : x.phys_start % 4096 ≡ 0 = c.aligned a cell n r x ir (ltb-true 0 x.size (place_size x (page + i) t)) e plain in
          whole_from x page i l b q.1 begins il ll t
      | inr e ↦ absurd (c.pages a cell above n r s x y ir is own e mapped (page + i) t (page_places y at i mapped even h il))
    ] in one in
    same_test (has_place x (page + j)) (has_place x (page + k)) (moves j k jl kl) (moves k j kl jl)

-- ---- cells

-- two cells that hold a place unshared have it in the same section of linked devices
pub cells_apart : (system : SystemConfig) (cells : List CellConfig) → IsClean system cells → CellsAreApart system cells
cells_apart system cells c a b one other above below na nb r s x y ir is ux uy place hx hy =
    let px = and_parts (not (is_comm x)) (not (has_flags 0x80 x)) ux in
    let py = and_parts (not (is_comm y)) (not (has_flags 0x80 y)) uy in
    let own : both_shared x y ≡ false = and_left (has_flags 0x80 x) (has_flags 0x80 y) (not-true (has_flags 0x80 x) px.1) in
    same_section_to one r other s (c.together a b one other above below na nb r s x y ir is (not-true (is_comm x) px.0) (not-true (is_comm y) py.0) place hx hy own)

-- ---- CPU sets

-- a byte's bit is a CPU of the set
bit_names : (set : List ℕ) (i k : ℕ) → k < 8 → bit_at (get_or set i 0) k ≡ 1 → is_cpu_set set (8 * i + k) ≡ true
bit_names set i k lt one =
    let byte : (8 * i + k) / 8 ≡ i = omega arith in
    let bit : (8 * i + k) % 8 ≡ k = omega arith in
    let some : bit_and (get_or set i 0) (2 ^ k) ≡ 1 * 2 ^ k = and_pow (get_or set i 0) k ∙ ap (λ x. x * 2 ^ k) one in
    let power : 0 < 2 ^ k = pow_pos k in
    let more : 0 < 1 * 2 ^ k = omega arith in
    let named : not (1 * 2 ^ k == 0) ≡ true = not_from_false (1 * 2 ^ k == 0) (ne_eqb (1 * 2 ^ k) 0 (λ e. omega arith)) in
    rw (byte, bit, some) named

-- a byte that isn't zero names a CPU
pub byte_names : (set : List ℕ) (i : ℕ) → get_or set i 0 < 256 → get_or set i 0 ≢ 0 → (k : ℕ) × (is_cpu_set set (8 * i + k) ≡ true)
byte_names set i small some =
    let bit = bit_at-trailing_zeros w8 (get_or set i 0) (omega arith) small in
    (trailing_zeros w8 (get_or set i 0), bit_names set i (trailing_zeros w8 (get_or set i 0)) bit.0 bit.1)

-- no CPU is named in a byte that is zero
pub zero_names : (set : List ℕ) (cpu : ℕ) → get_or set (cpu / 8) 0 ≡ 0 → is_cpu_set set cpu ≡ false
zero_names set cpu none =
    let e : bit_and (get_or set (cpu / 8) 0) (2 ^ (cpu % 8)) ≡ 0 = ap (λ (x : ℕ). bit_and x (2 ^ (cpu % 8))) none ∙ and_zero_l (2 ^ (cpu % 8)) in
    rw e refl

pub sound_set : (set : List ℕ) → ((i : ℕ) → get_or set i 0 < 256) → IsSoundBitmap set → IsSoundCpuSet set
sound_set set bytes h =
    let s = h.some in
    let named = byte_names set s.0 (bytes s.0) s.1 in
    record {
      some = (8 * s.0 + named.0, named.1);
      few = λ cpu t. elim (cases_lt cpu 16) [
        | inl l ↦ l
        | inr l ↦ absurd (false≢true (sym (zero_names set cpu (h.few (cpu / 8) (omega arith))) ∙ t))
      ];
    }

-- ---- devices

pub may_join : (system : SystemConfig) (cells : List CellConfig) → IsClean system cells → EndpointsMayJoin system cells
may_join system cells c a cell n m d i kind =
    let g = c.devices a cell n m d i kind in
    let first = section_exists cell d 0 g.exist (omega arith) in
    let x = first.0 in
    let e : d.shmem_regions_start + 0 ≡ d.shmem_regions_start = omega arith in
    let item : IsItem cell d.shmem_regions_start x = subst (λ k. IsItem cell k x) e first.1.item in
    let table = g.table x first.1 in
    let plain = g.sections 0 x first.1 in
    let size = table.some in
    let own = g.own in
    let few = g.few in
    let range = c.within a cell n d.shmem_regions_start x item (omega arith) in
    record { number = omega arith; vectors = g.vectors; table = (x, item, omega arith, range.phys plain.no_comm) }

pub numbers_differ : (system : SystemConfig) (cells : List CellConfig) → IsClean system cells → LinksHaveNumbers system cells
numbers_differ system cells c a b one other apart na nb m n d e i j linked =
    elim (cases_order a b) [
      | inl same ↦ absurd (apart same)
      | inr (inl l) ↦
          let turned : AreLinked e d = record { one_kind = linked.other_kind; other_kind = linked.one_kind; bdf = sym linked.bdf } in
          let g = c.links b a other one l nb na n m e d j i turned in
          λ q. g.numbers (sym q)
      | inr (inr l) ↦
          let g = c.links a b one other l na nb m n d e i j linked in
          g.numbers
    ]
