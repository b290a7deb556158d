-- Numbers that the bytes at places in a row spell.
use Rattle.std.proofs.Common.{◌≡◌, ℕ, zero, suc, length, refl, subst, ◌+◌, ◌-◌, ◌*◌, ◌^◌, ◌<◌, ◌≤◌, List, [], ◌∷◌, ◌++◌, map, ap, sym, ◌∙◌, arith}
use Rattle.std.proofs.Math.Nat.{pow-le-pow_right}
use Rattle.std.proofs.lemmas.List.{append-nil, map-append, length-append}
use Rattle.jh_num.specs.Memory.{spelled}
use Rattle.jh_num.proofs.Public.{byte_fits, word_fits}
use Rattle.jh_history.specs.declared.place.Place.{Place}
use Rattle.jh_history.specs.declared.place.Row.{Row}
use Rattle.jh_history.specs.Places.{further, places_in_row, places_of_row}
use Rattle.jh_history.proofs.PlaceLemmas.{row_next}

-- one byte below those that are spelled already
pub spelled_more : (f : Place → ℕ) (p : Place) (k n v : ℕ) (bytes : List ℕ) → 0 < k → k ≤ n → v ≡ spelled (map f (places_in_row (further p k) (n - k)) ++ bytes)
    → v * 256 + f (further p (k - 1)) ≡ spelled (map f (places_in_row (further p (k - 1)) (n - (k - 1))) ++ bytes)
spelled_more f p k n v bytes some le is =
    let e : (k - 1) + 1 ≡ k = omega arith in
    let row : places_in_row (further p (k - 1)) (n - (k - 1)) ≡ further p (k - 1) ∷ places_in_row (further p k) (n - k) =
    row_next p (k - 1) n (omega arith) ∙ ap (λ (j : ℕ). further p (k - 1) ∷ places_in_row (further p j) (n - j)) e in
    let sum : v * 256 + f (further p (k - 1)) ≡ f (further p (k - 1)) + 256 * v = omega arith in
    rw row (sum ∙ ap (λ (m : ℕ). f (further p (k - 1)) + 256 * m) is)

pub fits_more : (v b n c k : ℕ) → 0 < k → k ≤ c → v < 256 ^ (n + (c - k)) → b < 256 → v * 256 + b < 256 ^ (n + (c - (k - 1)))
fits_more v b n c k some le small byte =
    let e : n + (c - (k - 1)) ≡ (n + (c - k)) + 1 = omega arith in rw e (byte_fits v b (n + (c - k)) small byte)

-- eight bytes and fewer fit a word
pub word_more : (v b c k : ℕ) → 0 < k → k ≤ c → c ≤ 8 → v < 256 ^ ((8 - c) + (c - k)) → b < 256 → v * 256 + b < 2 ^ 64
word_more v b c k some le few small byte =
    word_fits (v * 256 + b) (((8 - c) + (c - k)) + 1) (omega arith) (byte_fits v b ((8 - c) + (c - k)) small byte)

pub fits_below : (v low high : ℕ) → low + high ≤ 8 → v < 256 ^ (0 + high) → v < 256 ^ (8 - low)
fits_below v low high few small = let le : 256 ^ (0 + high) ≤ 256 ^ (8 - low) = pow-le-pow_right (omega arith) (omega arith) in omega arith

-- the value of two rows, the high one spelled first
pub value_of_rows : (f : Place → ℕ) (places low high : List Place) (above value : ℕ) → places ≡ low ++ high → above ≡ spelled (map f high ++ [])
    → ((rest : List ℕ) → above ≡ spelled rest → value ≡ spelled (map f low ++ rest)) → value ≡ spelled (map f places)
value_of_rows f places low high above value is first second =
    second (map f high) (first ∙ ap spelled (append-nil (map f high)))
    ∙ ap spelled (sym (map-append f low high))
    ∙ ap (λ (ps : List Place). spelled (map f ps)) (sym is)

pub fits_alone : (v n : ℕ) → v < 256 ^ (0 + n) → v < 256 ^ n
fits_alone v n h = let e : 0 + n ≡ n = omega arith in let P : ℕ → Type 0 = λ m. v < 256 ^ m in subst P e h

-- a row has so many places
pub row_length : (p : Place) (n : ℕ) → length (places_in_row p n) ≡ n
row_length p zero = refl
row_length p (suc n) = ap suc (row_length (further p 1) n)

-- a number of so many bytes as two rows have, by their places
pub fits_in_places : (v : ℕ) (low high : Row) (places : List Place) → places ≡ places_of_row low ++ places_of_row high → v < 256 ^ (high.count + low.count) → v < 256 ^ length places
fits_in_places v low high places is fits =
    let both : length places ≡ low.count + high.count =
    ap (λ (ps : List Place). length ps) is ∙ length-append (places_of_row low) (places_of_row high) ∙ ap (λ (n : ℕ). n + length (places_of_row high)) (row_length low.first low.count) ∙ ap (λ (n : ℕ). low.count + n) (row_length high.first high.count) in
    let e : high.count + low.count ≡ length places = omega (arith, both) in
    let P : ℕ → Type 0 = λ n. v < 256 ^ n in
    subst P e fits
