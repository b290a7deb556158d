-- Of two pieces the left one is put in first, and what the right one replaces moves up by one.
use Rattle.std.proofs.Common.{◌≡◌, ℕ, ◌+◌, ◌-◌, ◌≤◌, ◌<◌, ◌++◌, ◌∷◌, [], List, take, drop, length, arith, ap, sym, ◌∙◌}
use Rattle.std.proofs.lemmas.Bool.{lt-ltb}
use Rattle.std.proofs.lemmas.List.{take_at, drop_at, drop-drop, append_assoc, length-take-le, length_push}
use Rattle.jh_num.specs.declared.range.Range.{Range}
use Rattle.jh_num.proofs.splice.cut.Goals as goal

both_put : (xs : List Range) (left right : Range) (at upto : ℕ) → at < upto → upto ≤ length xs → take (at + 1) (take at xs ++ left ∷ drop at xs) ++ right ∷ drop (upto + 1) (take at xs ++ left ∷ drop at xs) ≡ take at xs ++ (left ∷ (right ∷ drop upto xs))
both_put xs left right at upto h l =
    let p = take at xs ++ left ∷ [] in
    let len : length p ≡ at + 1 = omega (arith, length_push (take at xs) left, length-take-le at xs (omega arith)) in
    let whole : take at xs ++ left ∷ drop at xs ≡ p ++ drop at xs = sym (append_assoc (take at xs) (left ∷ []) (drop at xs)) in
    let front : take (at + 1) (take at xs ++ left ∷ drop at xs) ≡ p = ap (λ zs. take (at + 1) zs) whole ∙ take_at p (drop at xs) (at + 1) len in
    let mid : drop (at + 1) (take at xs ++ left ∷ drop at xs) ≡ drop at xs = ap (λ zs. drop (at + 1) zs) whole ∙ drop_at p (drop at xs) (at + 1) len in
    let one : (at + 1) + (upto - at) ≡ upto + 1 = omega arith in
    let two : at + (upto - at) ≡ upto = omega arith in
    let back : drop (upto + 1) (take at xs ++ left ∷ drop at xs) ≡ drop upto xs =
    ap (λ n. drop n (take at xs ++ left ∷ drop at xs)) (sym one)
    ∙ sym (drop-drop (upto - at) (at + 1) (take at xs ++ left ∷ drop at xs))
    ∙ ap (λ zs. drop (upto - at) zs) mid
    ∙ drop-drop (upto - at) at xs
    ∙ ap (λ n. drop n xs) two in
    rw (front, back) (append_assoc (take at xs) (left ∷ []) (right ∷ drop upto xs))

pub returns-in_ok-insert-clause-ok : goal.returns-in_ok-insert-clause-ok
returns-in_ok-insert-clause-ok c =
    let within : c.args.upto ≤ length c.args.ranges.now.items = omega (arith, c.args.ranges.now.ok.0) in
    rw (c.replace.ensures.items, c.in_ok-insert.ensures.items, lt-ltb c.args.left.start c.args.left.end c.if-has_left.true, lt-ltb c.args.right.start c.args.right.end c.if-has_right.true)
    (both_put c.args.ranges.now.items c.args.left c.args.right c.args.at c.args.upto c.requires.some within)
