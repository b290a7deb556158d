-- The envelopes put last are those just measured of their cell, and the earlier ones stay.
use Rattle.std.proofs.Common.{◌+◌, ◌<◌, [], ◌∷◌, ◌++◌, length, get_or, inl, inr, sym, ap, subst, ◌∙◌, arith}
use Rattle.std.proofs.lemmas.Bool.{cases_eq}
use Rattle.std.proofs.lemmas.List.{get_or_default, get_or_append_left, get_or_push, length_push}
use Rattle.jh_check.specs.Private.Cells.{cells_of}
use Rattle.jh_check.specs.Private.Envelopes.{AreOf}
use Rattle.jh_check.proofs.pairing.envelopes_of_each.Goals as goal

pub loop-b-preserved : goal.loop-b-preserved
loop-b-preserved c =
    let rule = c.args.rule in
    let all = cells_of c.args.setup.now in
    let b = c.loop-b.b in
    let each = c.loop-b.each.items in
    let x = c.in_ok-measure.field-0 in
    let v = c.cell.ensures in
    let within : b < length all = omega arith in
    let count = c.loop-b.invariant.count in
    let here : AreOf rule b (get_or all b c.cell.result.now) x = subst (λ y. AreOf rule b y x) v c.in_ok-measure.ensures in
    rw c.in_ok-push.ensures.items (
    record {
      count = length_push each x ∙ ap (λ m. m + 1) count;
      known = λ k d cell h. elim (cases_eq k b) [
        | inl e ↦
            let there = subst (λ y. AreOf rule b y x) (get_or_default all b c.cell.result.now cell within) here in
            let last = subst (λ y. AreOf rule b (get_or all b cell) y) (sym (get_or_push each x d b count)) there in
            subst (λ j. AreOf rule j (get_or all j cell) (get_or (each ++ x ∷ []) j d)) (sym e) last
        | inr m ↦ subst (λ y. AreOf rule k (get_or all k cell) y) (sym (get_or_append_left each (x ∷ []) d k (omega arith))) (c.loop-b.invariant.known k d cell (omega arith))
      ];
    })
