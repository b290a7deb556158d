-- A piece of a list, read number by number.
use Rattle.std.proofs.Common.{◌≡◌, ℕ, zero, suc, ◌+◌, ◌-◌, ◌≤◌, List, ◌∷◌, get_or, take, drop, length, map, slice_index, slice_range, refl, ap, ◌∙◌, arith, drop-cons}
use Rattle.std.specs.List.{range_with_len}

-- part of a list is what is read of it over a row
pub read_over : (xs : List ℕ) (i n : ℕ) → i + n ≤ length xs → take n (drop i xs) ≡ map (slice_index xs) (range_with_len i n)
read_over xs i zero within = refl
read_over xs i (suc n) within =
    let next : suc i ≡ i + 1 = omega arith in
    ap (take (suc n)) (drop-cons xs i 0 (omega arith))
    ∙ ap (λ l. get_or xs i 0 ∷ l) (ap (λ k. take n (drop k xs)) next ∙ read_over xs (i + 1) n (omega arith))

-- so is a range of it
pub range_read : (xs : List ℕ) (i n : ℕ) → i + n ≤ length xs → slice_range xs i (i + n) ≡ map (slice_index xs) (range_with_len i n)
range_read xs i n within = let e : (i + n) - i ≡ n = omega arith in ap (λ k. take k (drop i xs)) e ∙ read_over xs i n within
