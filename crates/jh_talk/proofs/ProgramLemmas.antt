-- Programs that grow part by part.
use Rattle.std.proofs.Common.{◌≡◌, ℕ, suc, ◌+◌, ◌-◌, ◌<◌, ◌≤◌, List, [], ◌++◌, sym, ap, ◌∙◌, append_assoc, arith}
use Rattle.std.proofs.lemmas.List.{append-nil}
use Rattle.jh_script.specs.declared.op.Op.{Op}
use Rattle.jh_talk.specs.Programs.{rounds_from}

-- nothing is put behind the others
pub behind_nothing : {X : Type 0} (xs : List X) → xs ≡ xs ++ []
behind_nothing xs = sym (append-nil xs)

-- two parts, one after the other
pub two_parts : {X : Type 0} (a b c first second : List X) → first ≡ a ++ b → second ≡ first ++ c → second ≡ a ++ (b ++ c)
two_parts a b c first second one two = two ∙ ap (λ w. w ++ c) one ∙ append_assoc a b c

-- the rounds that are left, where one is made
pub one_round : (round : ℕ → List Op) (before after all : List Op) (i count : ℕ) → i < count → before ++ rounds_from round i (count - i) ≡ all → after ≡ before ++ round i → after ++ rounds_from round (i + 1) (count - (i + 1)) ≡ all
unfolding rounds_from
one_round round before after all i count more left made =
    let left_is : count - i ≡ suc (count - (i + 1)) = omega arith in
    ap (λ w. w ++ rounds_from round (i + 1) (count - (i + 1))) made
    ∙ append_assoc before (round i) (rounds_from round (i + 1) (count - (i + 1)))
    ∙ ap (λ n. before ++ rounds_from round i n) (sym left_is) ∙ left

-- no round is left
pub no_round : (round : ℕ → List Op) (ops all : List Op) (i count : ℕ) → count ≤ i → ops ++ rounds_from round i (count - i) ≡ all → ops ≡ all
unfolding rounds_from
no_round round ops all i count done left =
    let none : 0 ≡ count - i = omega arith in
    sym (append-nil ops) ∙ ap (λ n. ops ++ rounds_from round i n) none ∙ left
