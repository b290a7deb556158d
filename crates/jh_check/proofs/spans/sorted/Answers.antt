-- Each span has the number of a region that was passed, and the sort only moves spans.
use Rattle.std.proofs.Common.{◌≡◌, ℕ, ◌<◌, true, length, get_or, inl, inr, sym, subst, arith}
use Rattle.std.specs.List.{Contains}
use Rattle.std.proofs.lemmas.Bool.{cases_eq}
use Rattle.std.proofs.lemmas.List.{get_or_default}
use Rattle.std.proofs.lemmas.List.Sorted.{Contains-permutation, IsPermutation-sym}
use Rattle.jh_cellcfg.specs.declared.region.Region.{Region}
use Rattle.jh_check.specs.Private.Spans.{takes_part, span_of}
use Rattle.jh_check.proofs.spans.sorted.Goals as goal

pub loop-item-preserved : goal.loop-item-preserved
loop-item-preserved c =
    let rule = c.args.rule in
    let regions = c.args.regions.now in
    let spans = c.push.new.spans.items in
    let none : Region = record { phys_start = 0; virt_start = 0; size = 0; flags = 0 } in (
      λ r d h t. elim (cases_eq r c.loop-item.item) [
        | inl e ↦
            let within : c.loop-item.item < length regions = c.loop-item-test.true in
            let P : Region → Type 0 = λ x. takes_part rule x ≡ true → Contains spans (span_of rule c.loop-item.item x) in
            let here : P (get_or regions c.loop-item.item none) = c.in_ok-push.ensures.has in
            let same = subst P (get_or_default regions c.loop-item.item none d within) here in
            let Q : ℕ → Type 0 = λ k. takes_part rule (get_or regions k d) ≡ true → Contains spans (span_of rule k (get_or regions k d)) in
            subst Q (sym e) same t
        | inr n ↦ c.push.ensures.kept (span_of rule r (get_or regions r d)) (c.loop-item.invariant.0 r d (omega arith) t)
      ],
      λ x cx. elim (cases_eq x.item c.loop-item.item) [
        | inl e ↦ omega arith
        | inr n ↦ let h = c.loop-item.invariant.1 x (c.push.ensures.others x n cx) in omega arith
      ],
    )

pub returns-clause-each : goal.returns-clause-each
returns-clause-each c = λ r d h t. Contains-permutation _ _ _ c.sort_unstable_by_key.ensures.permutation (c.loop-item.invariant.0 r d (omega arith) t)

pub returns-clause-only : goal.returns-clause-only
returns-clause-only c = λ x cx.
    let h = c.loop-item.invariant.1 x (Contains-permutation _ _ _ (IsPermutation-sym _ _ c.sort_unstable_by_key.ensures.permutation) cx) in
    omega arith
