-- What the reader makes of digits.
use Rattle.std.proofs.Common.{◌≡◌, ℕ, ◌+◌, ◌*◌, ◌^◌, ◌<◌, ◌≤◌, Bool, true, false, cond, ltb, List, [], ◌∷◌, length, get_or, drop, Option, Some, None, refl, sym, arith, option_and_then, ◌&&◌}
use Rattle.std.specs.Char.{digit_value}
use Rattle.std.specs.Str.Parse.{digits_value_after}
use Rattle.std.proofs.lemmas.Bool.{lt-ltb, ltb-true, ltb-false, le-ltb}
use Rattle.std.proofs.lemmas.List.{at_drop_more, at_drop_all}
use Rattle.std.proofs.Math.Nat.{le-mul_of_pos_right}
use Rattle.std.proofs.Math.Bool.{and-false}
use Rattle.jh_script.specs.Private.Reading.{value_after, next_value}
use Rattle.jh_script.specs.Numbers.{are_digits, value_of}

-- one more digit
pub value_after_more : (base n : ℕ) (ds : List ℕ) (i : ℕ) → i < length ds → value_after base n (drop i ds) ≡ option_and_then (λ m. value_after base m (drop (i + 1) ds)) (next_value base n (get_or ds i 0))
unfolding value_after
value_after_more base n ds i h = at_drop_more (value_after base n) ds i 0 h

-- no digit is left
pub value_after_all : (base n : ℕ) (ds : List ℕ) (i : ℕ) → length ds ≤ i → value_after base n (drop i ds) ≡ Some n
unfolding value_after
value_after_all base n ds i h = at_drop_all (value_after base n) ds i h

-- more digits make no smaller number
pub value_ge : (base n : ℕ) (ds : List ℕ) → 0 < base → n ≤ digits_value_after base n ds
value_ge base n [] some = omega arith
value_ge base n (d ∷ ds) some =
    omega (arith, le-mul_of_pos_right {m = base} n some, value_ge base (n * base + digit_value d) ds some)

-- the number that the digits write after those of n, by its whole value
abbrev whole : ℕ → ℕ → List ℕ → Option ℕ
whole base n ds = cond (are_digits base ds && ltb (digits_value_after base n ds) (2 ^ 64)) (Some (digits_value_after base n ds)) None

too_large : (base n : ℕ) (ds : List ℕ) → 0 < base → 2 ^ 64 ≤ n → whole base n ds ≡ None
too_large base n ds some large =
    let past : 2 ^ 64 ≤ digits_value_after base n ds = omega (arith, value_ge base n ds some) in
    rw (le-ltb (digits_value_after base n ds) (2 ^ 64) past, and-false (are_digits base ds)) refl

whole_more : (base n d : ℕ) (ds : List ℕ) → 0 < base → ((m : ℕ) → m < 2 ^ 64 → value_after base m ds ≡ whole base m ds)
    → (s t : Bool) → ltb (digit_value d) base ≡ s → ltb (n * base + digit_value d) (2 ^ 64) ≡ t → value_after base n (d ∷ ds) ≡ whole base n (d ∷ ds)
unfolding value_after are_digits
whole_more base n d ds some h false t e f = rw e refl
whole_more base n d ds some h true true e f = rw (e, f) (h (n * base + digit_value d) (ltb-true (n * base + digit_value d) (2 ^ 64) f))
whole_more base n d ds some h true false e f = rw (e, f) (sym (too_large base (n * base + digit_value d) ds some (ltb-false (n * base + digit_value d) (2 ^ 64) f)))

after_is_whole : (base n : ℕ) (ds : List ℕ) → 0 < base → n < 2 ^ 64 → value_after base n ds ≡ whole base n ds
unfolding value_after are_digits
after_is_whole base n [] some small = rw (lt-ltb n (2 ^ 64) small) refl
after_is_whole base n (d ∷ ds) some small =
    whole_more base n d ds some (λ m below. after_is_whole base m ds some below)
    (ltb (digit_value d) base) (ltb (n * base + digit_value d) (2 ^ 64)) refl refl

-- the digits one after the other make the number of all
pub value_is : (base : ℕ) (ds : List ℕ) → 2 ≤ base → value_after base 0 ds ≡ value_of base ds
unfolding value_of
value_is base ds low = after_is_whole base 0 ds (omega arith) (omega arith)
