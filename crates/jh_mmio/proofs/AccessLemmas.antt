-- The bytes of an access, and where they lie.
use Rattle.std.proofs.Common.{◌≡◌, ℕ, ◌+◌, ◌-◌, ◌<◌, ◌≤◌, Bool, true, false, ◌&&◌, not, leb, ltb, List, length, sym, ◌∙◌, ap, subst, arith, IsTrue, ◌↔◌, [], ◌∷◌, ⊎_elim}
use Rattle.std.specs.Prelude.{Contains}
use Rattle.std.specs.List.{list_any, range_with_len, list_all}
use Rattle.std.proofs.lemmas.Bool.{leb-true, ltb-true, lt-ltb, le-leb, and_parts, and_from}
use Rattle.std.proofs.lemmas.List.FromFn.{get_or-range_with_len, length-range_with_len}
use Rattle.jh_num.proofs.Public.{same_test, list_all_each, IsFound_from_list_any, list_any_from_Contains, Contains_cases}
use Rattle.jh_num.specs.declared.range.Range.{Range}
use Rattle.jh_num.specs.Bytes.{has_byte}
use Rattle.jh_cellcfg.specs.declared.region.Region.{Region}
use Rattle.jh_cellcfg.specs.Regions.{is_comm, place_in}
use Rattle.jh_mmio.specs.Dispatch.{is_between, lies_between, is_at_closed}

-- where all elements pass, each does
list_all_at : {X : Type 0} (p : X → Bool) (xs : List X) (x : X) → list_all p xs ≡ true → Contains xs x → p x ≡ true
list_all_at p [] x h (k, below, is) = absurd (omega arith)
list_all_at p (y ∷ ys) x h c =
    let parts = and_parts (p y) (list_all p ys) h in
    ⊎_elim (λ (same : y ≡ x). ap p (sym same) ∙ parts.0) (λ (later : Contains ys x). list_all_at p ys x parts.1 later) (Contains_cases y ys x c)

-- the bytes are those from the first on, as many as the width
pub byte_of : (at n a : ℕ) → at ≤ a → a < at + n → Contains (range_with_len at n) a
byte_of at n a low high =
    let lt : a - at < n = omega arith in
    let len : length (range_with_len at n) ≡ n = length-range_with_len at n in
    let back : at + (a - at) ≡ a = omega arith in
    (a - at, omega arith, get_or-range_with_len at n (a - at) a lt ∙ back)

pub byte_at : (at n a : ℕ) → Contains (range_with_len at n) a → (at ≤ a) × (a < at + n)
byte_at at n a (k, k_lt, k_is) =
    let len : length (range_with_len at n) ≡ n = length-range_with_len at n in
    let lt : k < n = omega arith in
    let is : at + k ≡ a = sym (get_or-range_with_len at n k a lt) ∙ k_is in
    (omega arith, omega arith)

between_from : (start end a : ℕ) → start ≤ a → a < end → is_between start end a ≡ true
between_from start end a low high = and_from (leb start a) (ltb a end) (le-leb start a low) (lt-ltb a end high)

between_parts : (start end a : ℕ) → is_between start end a ≡ true → (start ≤ a) × (a < end)
between_parts start end a h = let p = and_parts (leb start a) (ltb a end) h in (leb-true start a p.0, ltb-true a end p.1)

-- all of them lie between two ends where the first and the last do
pub lies_from : (start end at n : ℕ) → start ≤ at → at + n ≤ end → lies_between start end at n ≡ true
lies_from start end at n low high =
    list_all_each (is_between start end) (range_with_len at n) (λ a h. let b = byte_at at n a h in between_from start end a (omega arith) (omega arith))

pub lies_parts : (start end at n : ℕ) → 0 < n → lies_between start end at n ≡ true → (start ≤ at) × (at + n ≤ end)
lies_parts start end at n some h =
    let first = between_parts start end at (list_all_at (is_between start end) (range_with_len at n) at h (byte_of at n at (omega arith) (omega arith))) in
    let last = between_parts start end (at + (n - 1)) (list_all_at (is_between start end) (range_with_len at n) (at + (n - 1)) h (byte_of at n (at + (n - 1)) (omega arith) (omega arith))) in
    (first.0, omega arith)

-- the test by the bytes that are left behind the first
pub lies_test : (start size at n w left : ℕ) → w ≡ n → left ≡ size - (at - start) → 0 < n → start ≤ at → leb w left ≡ lies_between start (start + size) at n
lies_test start size at n w left w_is left_is some low = same_test (leb w left) (lies_between start (start + size) at n)
    (λ h. let fits : w ≤ left = leb-true w left h in lies_from start (start + size) at n low (omega arith))
    (λ h. let parts = lies_parts start (start + size) at n some h in le-leb w left (omega arith))

pub lies_not : (start end at n : ℕ) → 0 < n → at < start → leb start at ≡ lies_between start end at n
lies_not start end at n some low = same_test (leb start at) (lies_between start end at n)
    (λ h. let le : start ≤ at = leb-true start at h in absurd (omega arith))
    (λ h. let parts = lies_parts start end at n some h in absurd (omega arith))

-- a range of closed places tells whether one of the bytes is at one
pub closed_test : (ranges : List Range) (r : Region) (at n : ℕ) (b : Bool) (start end : ℕ) → is_comm r ≡ false → r.virt_start ≤ at → start ≡ r.phys_start + (at - r.virt_start) → end ≡ start + n
    → (IsTrue b ↔ ((place : ℕ) × IsTrue (is_between start end place && has_byte ranges place))) → b ≡ is_at_closed (has_byte ranges) at n r
closed_test ranges r at n b start end comm low start_is end_is told =
    same_test b any there back ∙ sym (ap (λ t. not t && any) comm)
  where
    closed : ℕ → Bool
    closed a = has_byte ranges (place_in r a)

    any : Bool
    any = list_any (λ a. has_byte ranges (place_in r a)) (range_with_len at n)

    there : b ≡ true → any ≡ true
    there h =
        let hit = told.0 h in
        let place : ℕ = hit.0 in
        let parts = and_parts (is_between start end place) (has_byte ranges place) hit.1 in
        let within = between_parts start end place parts.0 in
        let a : ℕ = r.virt_start + (place - r.phys_start) in
        let same : place ≡ place_in r a = omega arith in
        let P : ℕ → Type 0 = λ p. has_byte ranges p ≡ true in
        list_any_from_Contains (λ a. has_byte ranges (place_in r a)) (range_with_len at n) a (byte_of at n a (omega arith) (omega arith)) (subst P same parts.1)

    back : any ≡ true → b ≡ true
    back h =
        let found = IsFound_from_list_any (λ a. has_byte ranges (place_in r a)) (range_with_len at n) h in
        let a : ℕ = found.0 in
        let within = byte_at at n a found.1.among in
        let place : ℕ = place_in r a in
        told.1 (place, and_from (is_between start end place) (has_byte ranges place) (between_from start end place (omega arith) (omega arith)) found.1.passes)
