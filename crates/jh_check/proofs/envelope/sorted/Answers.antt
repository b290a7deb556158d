-- A span that was appended stays, also through the sort, which puts the starts in order.
use Rattle.std.proofs.Common.{◌≡◌, ℕ, ◌<◌, true, length, get_or, inl, inr, sym, subst, arith, rules}
use Rattle.std.specs.List.{Contains}
use Rattle.std.proofs.lemmas.Bool.{cases_eq}
use Rattle.std.proofs.lemmas.List.{get_or_default}
use Rattle.std.proofs.lemmas.List.Sorted.{Contains-permutation, IsNonDecreasingBy-from_sort_by_key}
use Rattle.jh_cellcfg.specs.declared.region.Region.{Region}
use Rattle.jh_check.specs.declared.spans.Span.{Span}
use Rattle.jh_check.specs.Private.Spans.{span_of}
use Rattle.jh_check.specs.Private.Envelopes.{may_follow}
use Rattle.jh_check.proofs.envelope.sorted.Goals as goal

pub loop-item-preserved : goal.loop-item-preserved
loop-item-preserved c =
    let rule = c.args.rule in
    let regions = c.args.regions.now in
    let spans = c.push.new.spans.items in
    let none : Region = record { phys_start = 0; virt_start = 0; size = 0; flags = 0 } in
    λ r d h t. elim (cases_eq r c.loop-item.item) [
      | inl e ↦
          let within : c.loop-item.item < length regions = c.loop-item-test.true in
          let P : Region → Type 0 = λ x. may_follow rule c.args.pass c.args.b x ≡ true → Contains spans (span_of rule c.loop-item.item x) in
          let f = c.may_follow-follows.ensures in
          let s = c.span_of.ensures in
          let here : P (get_or regions c.loop-item.item none) = λ t.
          let g : c.may_follow-follows.result ≡ true = cc in
          subst (λ (x : Span). Contains spans x) s (c.in_ok-push.ensures.has g)
          in
          let same = subst P (get_or_default regions c.loop-item.item none d within) here in
          let Q : ℕ → Type 0 = λ k. may_follow rule c.args.pass c.args.b (get_or regions k d) ≡ true → Contains spans (span_of rule k (get_or regions k d)) in
          subst Q (sym e) same t
      | inr n ↦ c.push.ensures.kept (span_of rule r (get_or regions r d)) (c.loop-item.invariant r d (omega arith) t)
    ]

pub returns-clause-each : goal.returns-clause-each
returns-clause-each c = λ r d h t. Contains-permutation _ _ _ c.sort_unstable_by_key.ensures.permutation (c.loop-item.invariant r d (omega arith) t)

pub returns-clause-order : goal.returns-clause-order
returns-clause-order c = IsNonDecreasingBy-from_sort_by_key (λ (span : Span). span.start) _ c.sort_unstable_by_key.ensures.sorted (λ a r q k. search rules)
