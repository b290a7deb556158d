-- Tests that are true or false. What std has of them stands in `std.proofs.lemmas.Bool` (`and_parts`,
-- `and_from`, `or_cases`, `or_parts`, `not-true`, `false_from_ne_true`, `both_ways` ..) and in
-- `std.proofs.Math.Bool` (`or-true`, `or-false`, `and-true`, `and-false` ..).
use Rattle.std.proofs.Common.{◌≡◌, ℕ, ◌<◌, ◌≤◌, Bool, true, false, ◌&&◌, ◌||◌, not, cond, eqb, nat_le, nat_lt, refl, sym, arith}
use Rattle.std.proofs.lemmas.Bool.{eq-eqb, and_from, le-leb, lt-ltb}

-- two tests, each true where the other is
pub same_test : (a b : Bool) → (a ≡ true → b ≡ true) → (b ≡ true → a ≡ true) → a ≡ b
same_test true b h k = sym (h refl)
same_test false true h k = k refl
same_test false false h k = refl

-- a number equals itself
pub same_number : (n : ℕ) → eqb n n ≡ true
same_number n = eq-eqb n n refl

pub and_comm : (x y : Bool) → (x && y) ≡ (y && x)
and_comm true true = refl
and_comm true false = refl
and_comm false true = refl
and_comm false false = refl

pub or_comm : (x y : Bool) → (x || y) ≡ (y || x)
or_comm true true = refl
or_comm true false = refl
or_comm false true = refl
or_comm false false = refl

pub or_assoc : (x y z : Bool) → (x || (y || z)) ≡ ((x || y) || z)
or_assoc true y z = refl
or_assoc false y z = refl

pub or_swap : (x y z : Bool) → (x || (y || z)) ≡ ((x || z) || y)
or_swap true y z = refl
or_swap false y z = or_comm y z

-- a number between the two
pub within_both : (first end n : ℕ) → first ≤ n → n < end → (nat_le first n && nat_lt n end) ≡ true
within_both first end n a b = and_from (nat_le first n) (nat_lt n end) (le-leb first n a) (lt-ltb n end b)

-- one is counted, or none
pub count_few : (b : Bool) → cond (not b) 1 0 ≤ 1
count_few true = omega arith
count_few false = omega arith
