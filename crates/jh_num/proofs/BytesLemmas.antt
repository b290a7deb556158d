-- Ranges that are apart, byte by byte.
use Rattle.std.proofs.Common.{◌≡◌, ℕ, ◌+◌, ◌<◌, ◌≤◌, zero, suc, Bool, true, false, ◌||◌, List, [], ◌∷◌, ◌++◌, length, get_or, take, drop, sym, refl, ap, subst, ◌∙◌, ⊎_elim, arith}
use Rattle.std.proofs.lemmas.Bool.{lt-ltb, le-ltb, cases_lt}
use Rattle.std.proofs.lemmas.Bool.Decides.{nat_tests}
use Rattle.std.proofs.Math.Bool.{or-true, or-false}
use Rattle.std.proofs.lemmas.List.Folds.{list_any-append}
use Rattle.std.proofs.lemmas.List.{take-append-drop, length-take-le, get_or-take}
use Rattle.jh_num.specs.declared.range.Range.{Range}
use Rattle.jh_num.specs.Bytes.{in_range, has_byte, AreApartFrom}
use Rattle.jh_num.specs.Private.Pieces.{pieces}
use Rattle.jh_num.proofs.Booleans.{or_assoc}

pub has_byte_append : (xs ys : List Range) (b : ℕ) → has_byte (xs ++ ys) b ≡ (has_byte xs b || has_byte ys b)
has_byte_append xs ys b = list_any-append (λ (range : Range). in_range range b) xs ys

pub below_range : (r : Range) (b : ℕ) → b < r.start → in_range r b ≡ false
below_range r b h = grind (arith, nat_tests)

pub above_range : (r : Range) (b : ℕ) → r.end ≤ b → in_range r b ≡ false
above_range r b h = grind (arith, nat_tests)

pub within_range : (r : Range) (b : ℕ) → r.start ≤ b → b < r.end → in_range r b ≡ true
within_range r b h k = grind (arith, nat_tests)

-- a list that starts late starts early
pub AreApartFrom_lower : (low to : ℕ) (xs : List Range) → to ≤ low → AreApartFrom low xs → AreApartFrom to xs
AreApartFrom_lower low to [] h a = tt
AreApartFrom_lower low to (x ∷ xs) h a = (omega arith, a.1, a.2)

pub AreApartFrom_take : (low k : ℕ) (xs : List Range) → AreApartFrom low xs → AreApartFrom low (take k xs)
AreApartFrom_take low zero xs a = tt
AreApartFrom_take low (suc k) [] a = tt
AreApartFrom_take low (suc k) (x ∷ xs) a = (a.0, a.1, AreApartFrom_take (x.end + 1) k xs a.2)

-- no byte below the first range
pub absent_below : (low : ℕ) (xs : List Range) (b : ℕ) → AreApartFrom low xs → b < low → has_byte xs b ≡ false
absent_below low [] b a h = refl
absent_below low (x ∷ xs) b a h =
    rw (below_range x b (omega arith)) (absent_below (x.end + 1) xs b a.2 (omega arith))

-- no byte past the ends
pub absent_above : (xs : List Range) (b : ℕ) → ((k : ℕ) (d : Range) → k < length xs → (get_or xs k d).end ≤ b) → has_byte xs b ≡ false
absent_above [] b h = refl
absent_above (x ∷ xs) b h =
    rw (above_range x b (h 0 x (omega arith))) (absent_above xs b (λ k d l. h (suc k) d (omega arith)))

-- a range of the list isn't empty, and starts past the first one's start
pub not_empty_at : (low : ℕ) (xs : List Range) (k : ℕ) (d : Range) → AreApartFrom low xs → k < length xs → (low ≤ (get_or xs k d).start) × ((get_or xs k d).start < (get_or xs k d).end)
not_empty_at low [] k d a h = absurd (omega arith)
not_empty_at low (x ∷ xs) zero d a h = (a.0, a.1)
not_empty_at low (x ∷ xs) (suc k) d a h =
    let e = not_empty_at (x.end + 1) xs k d a.2 (omega arith) in (omega arith, e.1)

-- a range ends before each later one starts
pub ends_before : (low : ℕ) (xs : List Range) (i k : ℕ) (d : Range) → AreApartFrom low xs → i < k → k < length xs → (get_or xs i d).end < (get_or xs k d).start
ends_before low [] i k d a h l = absurd (omega arith)
ends_before low (x ∷ xs) i zero d a h l = absurd (omega arith)
ends_before low (x ∷ xs) zero (suc k) d a h l =
    let e = not_empty_at (x.end + 1) xs k d a.2 (omega arith) in omega arith
ends_before low (x ∷ xs) (suc i) (suc k) d a h l = ends_before (x.end + 1) xs i k d a.2 (omega arith) (omega arith)

-- what is left from a place on, by where the range there starts
pub AreApartFrom_from : (low to k : ℕ) (xs : List Range) → AreApartFrom low xs → ((d : Range) → k < length xs → to ≤ (get_or xs k d).start) → AreApartFrom to (drop k xs)
AreApartFrom_from low to k [] a h = elim k as (λ n. AreApartFrom to (drop n [])) [ zero ↦ tt | suc n ↦ tt ]
AreApartFrom_from low to zero (x ∷ xs) a h = (h x (omega arith), a.1, a.2)
AreApartFrom_from low to (suc k) (x ∷ xs) a h = AreApartFrom_from (x.end + 1) to k xs a.2 (λ d l. h d (omega arith))

-- what is left after a range
pub AreApartFrom_after : (low k : ℕ) (d : Range) (xs : List Range) → AreApartFrom low xs → k < length xs → AreApartFrom ((get_or xs k d).end + 1) (drop (suc k) xs)
AreApartFrom_after low k d [] a h = absurd (omega arith)
AreApartFrom_after low zero d (x ∷ xs) a h = a.2
AreApartFrom_after low (suc k) d (x ∷ xs) a h = AreApartFrom_after (x.end + 1) k d xs a.2 (omega arith)

-- one list after another
pub AreApartFrom_append : (low to : ℕ) (xs ys : List Range) → low ≤ to → AreApartFrom low xs → ((k : ℕ) (d : Range) → k < length xs → (get_or xs k d).end < to) → AreApartFrom to ys → AreApartFrom low (xs ++ ys)
AreApartFrom_append low to [] ys l a h b = AreApartFrom_lower to low ys l b
AreApartFrom_append low to (x ∷ xs) ys l a h b =
    let e = h 0 x (omega arith) in
    (a.0, a.1, AreApartFrom_append (x.end + 1) to xs ys (omega arith) a.2 (λ k d i. h (suc k) d (omega arith)) b)

-- a list around one of its ranges
pub has_byte_split : (xs : List Range) (k : ℕ) (d : Range) (b : ℕ) → k < length xs → has_byte xs b ≡ (has_byte (take k xs) b || (in_range (get_or xs k d) b || has_byte (drop (suc k) xs) b))
has_byte_split [] k d b h = absurd (omega arith)
has_byte_split (x ∷ xs) zero d b h = refl
has_byte_split (x ∷ xs) (suc k) d b h =
    ap (λ v. in_range x b || v) (has_byte_split xs k d b (omega arith)) ∙ or_assoc (in_range x b) (has_byte (take k xs) b) (in_range (get_or xs k d) b || has_byte (drop (suc k) xs) b)

-- a list cut in two
pub has_byte_cut : (xs : List Range) (k b : ℕ) → has_byte xs b ≡ (has_byte (take k xs) b || has_byte (drop k xs) b)
has_byte_cut xs k b = ap (λ v. has_byte v b) (sym (take-append-drop k xs)) ∙ has_byte_append (take k xs) (drop k xs) b

-- the places of the first ranges
pub get_or_of_take : (P : Range → Type 0) (xs : List Range) (n : ℕ) → n ≤ length xs → ((k : ℕ) (d : Range) → k < n → P (get_or xs k d)) → (k : ℕ) (d : Range) → k < length (take n xs) → P (get_or (take n xs) k d)
get_or_of_take P xs n l h k d i =
    let j : k < n = omega (arith, length-take-le n xs l) in
    subst P (sym (get_or-take n xs k d j)) (h k d j)

-- a list around one of its ranges, the places after it counted otherwise
pub has_byte_split_at : (xs : List Range) (k n : ℕ) (d : Range) (b : ℕ) → n ≡ suc k → k < length xs → has_byte xs b ≡ (has_byte (take k xs) b || (in_range (get_or xs k d) b || has_byte (drop n xs) b))
has_byte_split_at xs k n d b e h = rw e (has_byte_split xs k d b h)

-- two tests of which one decides
pub or_true_middle : (t d x : Bool) → (t || (true || d)) ≡ (x || true)
or_true_middle t d x = elim t as (λ v. (v || (true || d)) ≡ (x || true)) [ true ↦ sym (or-true x) | false ↦ sym (or-true x) ]

-- the bytes below a range that takes the place of others
pub low_bytes : (t m d x a r : Bool) → d ≡ false → a ≡ false → r ≡ false → m ≡ x → (t || (m || d)) ≡ ((t || (x || a)) || r)
low_bytes t m d x a r hd ha hr e = rw (hd, ha, hr, e) (sym (or-false (t || (x || false))))

-- the bytes above it
pub high_bytes : (t m d y b r : Bool) → t ≡ false → b ≡ false → r ≡ false → m ≡ y → (t || (m || d)) ≡ ((b || (y || d)) || r)
high_bytes t m d y b r ht hb hr e = rw (ht, hb, hr, e) (sym (or-false (y || d)))

-- two ranges that agree on a byte
pub same_byte : (x y : Range) (b : ℕ) → (x.start ≤ b → y.start ≤ b) → (y.start ≤ b → x.start ≤ b) → (b < x.end → b < y.end) → (b < y.end → b < x.end) → in_range x b ≡ in_range y b
same_byte x y b h i j k = grind (arith, nat_tests)

-- a piece has its bytes, and an empty one none
pub has_byte_pieces : (p : Range) (b : ℕ) → has_byte (pieces p) b ≡ in_range p b
has_byte_pieces p b =
    ⊎_elim
    (λ some. rw (lt-ltb p.start p.end some) (or-false (in_range p b)))
    (λ none. rw (le-ltb p.start p.end none) (no_byte p b none))
    (cases_lt p.start p.end)
  where
    no_byte : (p : Range) (b : ℕ) → p.end ≤ p.start → false ≡ in_range p b
    no_byte p b h = grind (arith, nat_tests)

-- a piece before what is apart from it
pub AreApartFrom_pieces : (low : ℕ) (p : Range) (xs : List Range) → (p.start < p.end → low ≤ p.start) → (p.start < p.end → AreApartFrom (p.end + 1) xs) → AreApartFrom low xs → AreApartFrom low (pieces p ++ xs)
AreApartFrom_pieces low p xs h k a =
    ⊎_elim
    (λ some. rw (lt-ltb p.start p.end some) (h some, some, k some))
    (λ none. rw (le-ltb p.start p.end none) a)
    (cases_lt p.start p.end)
