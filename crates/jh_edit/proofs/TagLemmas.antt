-- The tags of cells' tables: so many seats have at most so many tags.
use Rattle.std.proofs.Common.{◌≡◌, ℕ, zero, suc, ◌+◌, ◌<◌, ◌≤◌, Bool, true, false, ◌||◌, List, [], ◌∷◌, length, Option, Some, None, refl, ap, arith}
use Rattle.std.specs.Prelude.{nat_eq}
use Rattle.std.proofs.lemmas.Bool.{ne_eqb, eqb-true}
use Rattle.jh_num.specs.Below.{sum_below}
use Rattle.jh_num.proofs.Public.{sum_le, sum_same}
use Rattle.jh_edit.specs.declared.stage.Seat.{Seat}
use Rattle.jh_edit.specs.declared.stage.Tree.{Tree}
use Rattle.jh_edit.specs.Seats.{has_tag, is_tag_used}
use Rattle.jh_edit.specs.Turns.{turn_if}
use Rattle.jh_edit.proofs.SumLemmas.{sum_none, sum_plus}

either_few : (a b : Bool) → turn_if (a || b) ≤ turn_if a + turn_if b
either_few true b = omega arith
either_few false b = omega arith

one_step : (t n : ℕ) (b : Bool) → nat_eq t n ≡ b → sum_below n (λ tag. turn_if (nat_eq t tag)) ≤ 1 → sum_below (suc n) (λ tag. turn_if (nat_eq t tag)) ≤ 1
unfolding sum_below
one_step t n true is few =
    let same : t ≡ n = eqb-true t n is in
    let none : sum_below n (λ tag. turn_if (nat_eq t tag)) ≡ 0 = sum_none (λ tag. turn_if (nat_eq t tag)) n (λ i lt. ap turn_if (ne_eqb t i (λ e. omega arith))) in
    let one : turn_if (nat_eq t n) ≡ 1 = ap turn_if is in omega arith
one_step t n false is few =
    let no : turn_if (nat_eq t n) ≡ 0 = ap turn_if is in omega arith

one_number : (t n : ℕ) → sum_below n (λ tag. turn_if (nat_eq t tag)) ≤ 1
unfolding sum_below
one_number t zero = omega arith
one_number t (suc n) = one_step t n (nat_eq t n) refl (one_number t n)

-- tables have one tag
one_tag : (tree : Option Tree) (n : ℕ) → sum_below n (λ tag. turn_if (has_tag tag tree)) ≤ 1
one_tag None n = let none : sum_below n (λ tag. turn_if (has_tag tag None)) ≡ 0 = sum_none (λ tag. turn_if (has_tag tag None)) n (λ i lt. refl) in omega arith
one_tag (Some tree) n = one_number tree.tag n

few_tags : (seats : List Seat) (n : ℕ) → sum_below n (λ tag. turn_if (is_tag_used tag seats)) ≤ length seats
few_tags [] n = let none : sum_below n (λ tag. turn_if (is_tag_used tag [])) ≡ 0 = sum_none (λ tag. turn_if (is_tag_used tag [])) n (λ i lt. refl) in omega arith
few_tags (seat ∷ rest) n =
    let more = few_tags rest n in
    let one = one_tag seat.tree n in
    let both : sum_below n (λ tag. turn_if (has_tag tag seat.tree) + turn_if (is_tag_used tag rest)) ≡ sum_below n (λ tag. turn_if (has_tag tag seat.tree)) + sum_below n (λ tag. turn_if (is_tag_used tag rest)) =
    sum_plus n (λ tag. turn_if (has_tag tag seat.tree)) (λ tag. turn_if (is_tag_used tag rest)) (λ tag. turn_if (has_tag tag seat.tree) + turn_if (is_tag_used tag rest)) (λ i lt. refl) in
    let less : sum_below n (λ tag. turn_if (is_tag_used tag (seat ∷ rest))) ≤ sum_below n (λ tag. turn_if (has_tag tag seat.tree) + turn_if (is_tag_used tag rest)) =
    sum_le n (λ tag. turn_if (is_tag_used tag (seat ∷ rest))) (λ tag. turn_if (has_tag tag seat.tree) + turn_if (is_tag_used tag rest)) (λ i lt. either_few (has_tag i seat.tree) (is_tag_used i rest)) in
    omega arith

all_ones : (n : ℕ) → sum_below n (λ i. 1) ≡ n
unfolding sum_below
all_ones zero = refl
all_ones (suc n) = let more = all_ones n in omega arith

-- where each of so many tags is had, there are as many seats
pub as_many_seats : (seats : List Seat) (n : ℕ) → ((tag : ℕ) → tag < n → is_tag_used tag seats ≡ true) → n ≤ length seats
as_many_seats seats n all =
    let few = few_tags seats n in
    let ones = all_ones n in
    let same : sum_below n (λ tag. turn_if (is_tag_used tag seats)) ≡ sum_below n (λ i. 1) = sum_same n (λ tag. turn_if (is_tag_used tag seats)) (λ i. 1) (λ i lt. ap turn_if (all i lt)) in
    omega arith
