-- Devices that are all like one of them, but for their numbers, fit each other.
use Rattle.std.proofs.Common.{◌≡◌, ◌≢◌, ℕ, zero, suc, ◌+◌, ◌<◌, ◌≤◌, Bool, true, false, ◌&&◌, ◌||◌, not, ◌==◌, List, [], ◌∷◌, length, get_or, take, refl, sym, ap, subst, ◌∙◌, inl, inr, arith}
use Rattle.std.proofs.Math.ListN.{replicate}
use Rattle.std.specs.List.{Contains, list_any}
use Rattle.std.proofs.lemmas.Bool.{cases_eq, cases_lt, cases_order, eqb-true, eqb-false, eq-eqb, ne_eqb, and_parts, and_from, or_cases, or_parts, or_left, or_right, not_from_false}
use Rattle.std.proofs.lemmas.List.{get_or_default, get_or_past, get_or-replicate, length-replicate}
use Rattle.jh_cellcfg.specs.declared.region.Region.{Region}
use Rattle.jh_cellcfg.specs.declared.config.PciDevice.{PciDevice}
use Rattle.jh_cellcfg.specs.declared.config.CellConfig.{CellConfig}
use Rattle.jh_check.specs.declared.seats.Seat.{Seat}
use Rattle.jh_check.specs.Devices.{are_linked, is_same_memory, are_same_memory, sections_of, fits, agrees_with_all}
use Rattle.jh_check.specs.Private.Seats.{HasSeats, seat_of}
use Rattle.jh_check.specs.Private.Fits.{IsSeated, is_like, LikeAt, AreLike, FitEachOther, AreSure}
use Rattle.jh_check.proofs.SeatLemmas.{agrees_linked}

-- ---- the same memory

-- what is the same as one is the same as each other
alike : (x y z : Region) → is_same_memory x y ≡ true → is_same_memory x z ≡ true → is_same_memory y z ≡ true
alike x y z t u =
    let p = and_parts (x.size == y.size) ((x.size == 0) || (x.phys_start == y.phys_start)) t in
    let q = and_parts (x.size == z.size) ((x.size == 0) || (x.phys_start == z.phys_start)) u in
    let a = eqb-true x.size y.size p.0 in
    let b = eqb-true x.size z.size q.0 in
    let empty = y.size == 0 in
    let here = y.phys_start == z.phys_start in
    let place : (empty || here) ≡ true =
    elim (or_cases (x.size == 0) (x.phys_start == y.phys_start) p.1) [
      | inl n ↦ or_left empty here (subst (λ s. (s == 0) ≡ true) a n)
      | inr f ↦ elim (or_cases (x.size == 0) (x.phys_start == z.phys_start) q.1) [
        | inl n ↦ or_left empty here (subst (λ s. (s == 0) ≡ true) a n)
        | inr g ↦ or_right empty here (eq-eqb y.phys_start z.phys_start (sym (eqb-true x.phys_start y.phys_start f) ∙ eqb-true x.phys_start z.phys_start g))
      ]
    ] in
    and_from (y.size == z.size) (empty || here) (eq-eqb y.size z.size (sym a ∙ b)) place

all_alike : (xs ys zs : List Region) → are_same_memory xs ys ≡ true → are_same_memory xs zs ≡ true → are_same_memory ys zs ≡ true
all_alike [] [] [] t u = refl
all_alike [] [] (z ∷ zs) t u = cc
all_alike [] (y ∷ ys) zs t u = cc
all_alike (x ∷ xs) [] zs t u = cc
all_alike (x ∷ xs) (y ∷ ys) [] t u = cc
all_alike (x ∷ xs) (y ∷ ys) (z ∷ zs) t u =
    let p = and_parts (is_same_memory x y) (are_same_memory xs ys) t in
    let q = and_parts (is_same_memory x z) (are_same_memory xs zs) u in
    and_from (is_same_memory y z) (are_same_memory ys zs) (alike x y z p.0 q.0) (all_alike xs ys zs p.1 q.1)

-- ---- two devices that are like one

like_parts : (regions : List Region) (device : PciDevice) (other_regions : List Region) (other : PciDevice) (id : ℕ) → is_like regions device other_regions other id ≡ true → (other.shmem_dev_id ≡ id) × (device.shmem_peers ≡ other.shmem_peers) × (are_same_memory (sections_of regions device) (sections_of other_regions other) ≡ true)
like_parts regions device other_regions other id t =
    let same = are_same_memory (sections_of regions device) (sections_of other_regions other) in
    let p = and_parts (other.shmem_dev_id == id) ((device.shmem_peers == other.shmem_peers) && same) t in
    let q = and_parts (device.shmem_peers == other.shmem_peers) same p.1 in
    (eqb-true other.shmem_dev_id id p.0, eqb-true device.shmem_peers other.shmem_peers q.0, q.1)

both_like : (regions : List Region) (device : PciDevice) (ones : List Region) (one : PciDevice) (others : List Region) (other : PciDevice) (m n : ℕ) → m ≢ n → is_like regions device ones one m ≡ true → is_like regions device others other n ≡ true → fits ones one others other ≡ true
both_like regions device ones one others other m n ne t u =
    let p = like_parts regions device ones one m t in
    let q = like_parts regions device others other n u in
    let same = are_same_memory (sections_of ones one) (sections_of others other) in
    let alone = not (one.shmem_dev_id == other.shmem_dev_id) in
    let peers : one.shmem_peers ≡ other.shmem_peers = sym p.1 ∙ q.1 in
    let apart : one.shmem_dev_id ≢ other.shmem_dev_id = λ e. ne (sym p.0 ∙ e ∙ q.0) in
    and_from (one.shmem_peers == other.shmem_peers) (alone && same) (eq-eqb one.shmem_peers other.shmem_peers peers) (
    and_from alone same (not_from_false (one.shmem_dev_id == other.shmem_dev_id) (ne_eqb one.shmem_dev_id other.shmem_dev_id apart)) (all_alike (sections_of regions device) (sections_of ones one) (sections_of others other) p.2 q.2))

-- ---- a run of seats

-- where no two have one number, those of different cells have different ones
ids_differ : (run : List Seat) → ((j k : ℕ) (d : Seat) → j < k → k < length run → (get_or run j d).id ≢ (get_or run k d).id) → (x y : Seat) → Contains run x → Contains run y → x.cell ≢ y.cell → x.id ≢ y.id
ids_differ run ids x y cx cy apart =
    let i = cx.0 in
    let j = cy.0 in
    let ex : get_or run i y ≡ x = get_or_default run i y x cx.1 ∙ cx.2 in
    let ey : get_or run j y ≡ y = cy.2 in
    let ax = ap (λ (s : Seat). s.id) ex in
    let ay = ap (λ (s : Seat). s.id) ey in
    elim (cases_order i j) [
      | inl e ↦
          let same : x ≡ y = sym ex ∙ ap (λ k. get_or run k y) e ∙ ey in
          absurd (apart (ap (λ (s : Seat). s.cell) same))
      | inr o ↦ elim o [
        | inl l ↦ λ q. ids i j y l cy.1 (ax ∙ q ∙ sym ay)
        | inr l ↦ λ q. ids j i y l cx.1 (ay ∙ sym q ∙ sym ax)
      ]
    ]

pub fit_each : (cells : List CellConfig) (regions : List Region) (device : PciDevice) (run : List Seat) (n : ℕ) → length run ≤ n → AreLike cells regions device run n → FitEachOther cells run
fit_each cells regions device run n all like = λ x y cx cy apart c d e f ax ay.
    let hx = cx.1 in
    let hy = cy.1 in
    let t = subst (λ (s : Seat). LikeAt cells regions device s) cx.2 (like.each cx.0 x (omega arith)) c d ax in
    let u = subst (λ (s : Seat). LikeAt cells regions device s) cy.2 (like.each cy.0 y (omega arith)) e f ay in
    let ne = ids_differ run (λ j k s l h. like.ids j k s l (omega arith)) x y cx cy apart in
    both_like regions device c.memory_regions d e.memory_regions f x.id y.id ne t u

-- none of the first passes a test
none_at : {X : Type 0} (p : X → Bool) (xs : List X) (n k : ℕ) (d : X) → list_any p (take n xs) ≡ false → k < n → k < length xs → p (get_or xs k d) ≡ false
none_at p [] n k d f h w = absurd (omega arith)
none_at p (x ∷ xs) zero k d f h w = absurd (omega arith)
none_at p (x ∷ xs) (suc n) zero d f h w = (or_parts (p x) (list_any p (take n xs)) f).0
none_at p (x ∷ xs) (suc n) (suc k) d f h w = none_at p xs n k d (or_parts (p x) (list_any p (take n xs)) f).1 (omega arith) (omega arith)

-- one seat more
pub like_more : (cells : List CellConfig) (regions : List Region) (device : PciDevice) (run : List Seat) (i : ℕ) (none : Seat) → i < length run → AreLike cells regions device run i → LikeAt cells regions device (get_or run i none) → list_any (λ (seat : Seat). seat.id == (get_or run i none).id) (take i run) ≡ false → AreLike cells regions device run (i + 1)
like_more cells regions device run i none within before here alone = record {
  each = λ k d h. elim (cases_eq k i) [
    | inl e ↦
        let same : get_or run i none ≡ get_or run k d = get_or_default run i none d within ∙ ap (λ j. get_or run j d) (sym e) in
        subst (λ (s : Seat). LikeAt cells regions device s) same here
    | inr n ↦ before.each k d (omega arith)
  ];
  ids = λ j k d l h. elim (cases_eq k i) [
    | inl e ↦
        let same : get_or run i none ≡ get_or run k d = get_or_default run i none d within ∙ ap (λ m. get_or run m d) (sym e) in
        let other = none_at (λ (seat : Seat). seat.id == (get_or run i none).id) run i j d alone (omega arith) (omega arith) in
        λ q. eqb-false (get_or run j d).id (get_or run i none).id other (q ∙ sym (ap (λ (s : Seat). s.id) same))
    | inr n ↦ before.ids j k d l (omega arith)
  ];
}

-- ---- the cells

pub all_false : (n i : ℕ) → get_or (replicate n false) i false ≡ false
all_false n i =
    let size = length-replicate n false in
    elim (cases_lt i n) [
      | inl h ↦ get_or-replicate n i false false h
      | inr h ↦ get_or_past (replicate n false) i false (omega arith)
    ]

-- where nothing is told, all that is told is so
pub sure_none : (cells : List CellConfig) (seats : List Seat) (sure : List Bool) → ((bdf : ℕ) → get_or sure bdf false ≡ false) → AreSure cells seats sure
sure_none cells seats sure none = λ bdf t. let f = none bdf in absurd (let e : true ≡ false = sym t ∙ f in cc)

-- a device of a cell has its seat
pub seated : (cells : List CellConfig) (seats : List Seat) (number n : ℕ) (cell : CellConfig) (none : PciDevice) → number < length cells → cell ≡ get_or cells number cell → HasSeats cells seats → n < length cell.pci_devices → IsSeated cells seats number cell (get_or cell.pci_devices n none)
seated cells seats number n cell none among is has within =
    let device = get_or cell.pci_devices n none in
    let there : Contains seats (seat_of number n device) = subst (λ (c : CellConfig). n < length c.pci_devices → Contains seats (seat_of number n (get_or c.pci_devices n none))) (sym is) (λ h. has number cell among n none h) within in
    record {
      seat = seat_of number n device;
      is = there;
      owner = refl;
      bdf = refl;
      sits = record { among = among; cell_is = sym is; within = within; device_is = get_or_default cell.pci_devices n device none within };
    }

-- a device at a bdf that is told fits those of cells with lower numbers
pub agrees_sure : (cells : List CellConfig) (number : ℕ) (cell : CellConfig) (device : PciDevice) (seats : List Seat) (sure : List Bool) → number ≤ length cells → HasSeats cells seats → AreSure cells seats sure → get_or sure device.bdf false ≡ true → IsSeated cells seats number cell device → agrees_with_all (take number cells) cell.memory_regions device ≡ true
agrees_sure cells number cell device seats sure bound has known told own =
    agrees_linked cells number cell.memory_regions device seats bound has (λ x cx ex c d low sits.
    let owner = own.owner in
    let apart : own.seat.cell ≢ x.cell = λ e. omega arith in
    let t = known device.bdf told own.seat x own.is cx own.bdf ex apart cell device c d own.sits sits in
    or_right (not (are_linked device d)) (fits cell.memory_regions device c.memory_regions d) t)
