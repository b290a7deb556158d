-- The last eight of a list that has eight already.
use Rattle.std.proofs.Common.{◌≡◌, ℕ, ◌-◌, ◌≤◌, List, [], ◌∷◌, ◌++◌, length, set, take, drop, sym, ap, ◌∙◌, arith}
use Rattle.std.proofs.lemmas.List.{set_at, take_all, length_push, length-drop, drop-append-le}
use Rattle.jh_num.specs.declared.steps.Probe.{Probe}
use Rattle.jh_num.specs.Counted.{last_eight}

moved : (xs : List Probe) (p : Probe) → length xs ≡ 8 → set (drop 1 xs ++ take 1 xs) 7 p ≡ drop 1 xs ++ p ∷ []
moved [] p e = absurd (omega (arith, e))
moved (x ∷ xs) p e = set_at xs x [] p 7 (omega (arith, e))

pub oldest_goes : (xs : List Probe) (p : Probe) (n : ℕ) → length xs ≡ 8 → 8 ≤ n → take n (set (drop 1 xs ++ take 1 xs) 7 p) ≡ last_eight (take n xs ++ p ∷ [])
oldest_goes xs p n e h =
    rw (take_all n xs (omega arith))
    (ap (λ ys. take n ys) (moved xs p e)
    ∙ take_all n (drop 1 xs ++ p ∷ []) (omega (arith, length_push (drop 1 xs) p, length-drop 1 xs))
    ∙ sym (drop-append-le 1 xs (p ∷ []) (omega arith))
    ∙ (let k : 1 ≡ length (xs ++ p ∷ []) - 8 = omega (arith, length_push xs p) in ap (λ k. drop k (xs ++ p ∷ [])) k))
