-- Lists of numbers that rise.
use Rattle.std.proofs.Common.{◌≢◌, ℕ, ◌<◌, List, length, Contains, AllPairs, arith}
use Rattle.std.specs.List.Sorted.{IsStrictlyIncreasing}
use Rattle.std.proofs.lemmas.List.Elements.{at_from_Contains}
use Rattle.std.proofs.lemmas.List.Kept.{AllPairs-from_increasing}

-- a list that has an element isn't empty
pub some_contained : (xs : List ℕ) (x : ℕ) → Contains xs x → 0 < length xs
some_contained xs x h = let at = at_from_Contains xs x h in let lt : at.0 < length xs = at.1 in omega arith

-- numbers that rise differ
pub differ_rising : (xs : List ℕ) → IsStrictlyIncreasing xs → AllPairs (λ a b. a ≢ b) xs
differ_rising xs rising = let below = AllPairs-from_increasing xs rising in λ i j d lt within same. let less = below i j d lt within in omega arith
