-- A number that is read from its last byte on.
use Rattle.std.proofs.Common.{◌≡◌, ℕ, suc, ◌+◌, ◌-◌, ◌*◌, ◌^◌, ◌<◌, ◌≤◌, List, get_or, drop, length, sym, ap, ◌∙◌, arith, drop-cons}
use Rattle.std.proofs.lemmas.List.{drop_all}
use Rattle.jh_num.specs.Memory.{spelled}
use Rattle.jh_num.proofs.MemoryLemmas.{word_fits, byte_fits}

-- the number with one byte more is one of 64 bits
pub next_fits : (v b m : ℕ) → m < 8 → v < 256 ^ m → b < 256 → v * 256 + b < 2 ^ 64
next_fits v b m few small byte =
    let more : v * 256 + b < 256 ^ (m + 1) = byte_fits v b m small byte in
    word_fits (v * 256 + b) (m + 1) (omega arith) more

-- no byte so far
pub spelled_start : (xs : List ℕ) → 0 ≡ spelled (drop (length xs - 0) xs)
spelled_start xs = sym (ap spelled (drop_all (length xs - 0) xs (omega arith)))

-- one byte more, below the others
pub spelled_below : (xs : List ℕ) (k number b : ℕ) → k < length xs → number ≡ spelled (drop (length xs - k) xs) → b ≡ get_or xs (length xs - 1 - k) 0 → number * 256 + b ≡ spelled (drop (length xs - (k + 1)) xs)
spelled_below xs k number b lt e is =
    let i : length xs - 1 - k ≡ length xs - (k + 1) = omega arith in
    let j : suc (length xs - (k + 1)) ≡ length xs - k = omega arith in
    let here : spelled (drop (length xs - (k + 1)) xs) ≡ get_or xs (length xs - (k + 1)) 0 + 256 * spelled (drop (suc (length xs - (k + 1))) xs) = ap spelled (drop-cons xs (length xs - (k + 1)) 0 (omega arith)) in
    let rest : spelled (drop (suc (length xs - (k + 1))) xs) ≡ number = ap (λ n. spelled (drop n xs)) j ∙ sym e in
    let byte : get_or xs (length xs - (k + 1)) 0 ≡ b = ap (λ n. get_or xs n 0) (sym i) ∙ sym is in
    omega arith

-- all of them
pub spelled_whole : (xs : List ℕ) (k number : ℕ) → length xs ≤ k → number ≡ spelled (drop (length xs - k) xs) → number ≡ spelled xs
spelled_whole xs k number past e = let none : length xs - k ≡ 0 = omega arith in e ∙ ap (λ n. spelled (drop n xs)) none
