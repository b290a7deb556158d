-- Only a region whose span meets the one's may overlap, and each of these is tried.
use Rattle.std.proofs.Common.{◌≡◌, ℕ, ◌<◌, true, false, List, length, get_or, sym, ap, subst, inl, inr, arith}
use Rattle.std.specs.List.{Contains}
use Rattle.std.proofs.lemmas.Bool.{cases_eq}
use Rattle.std.proofs.lemmas.List.{get_or_default}
use Rattle.jh_cellcfg.specs.declared.region.Region.{Region}
use Rattle.jh_check.specs.declared.rule.Rule.TheVariants.{CellsOverlap}
use Rattle.jh_check.specs.declared.spans.Span.{Span}
use Rattle.jh_check.specs.Private.Sites.{spot_of}
use Rattle.jh_check.specs.Regions.{pair_breaks}
use Rattle.jh_check.specs.Private.Spans.{span_of, spans_meet, HasOnly}
use Rattle.jh_check.specs.Lists.{is_any}
use Rattle.jh_check.specs.Findings.{spot}
use Rattle.jh_check.proofs.BreakLemmas.{beside_hit, beside_unmet}
use Rattle.jh_check.proofs.verdict.any_met.Goals as goal

-- a span that meets is of one of the regions
within : (regions : List Region) (spans met : List Span) → HasOnly regions spans → ((x : Span) → Contains met x → Contains spans x) → (i : ℕ) (d : Span) → i < length met → (get_or met i d).item < length regions
within regions spans met only of i d h =
    let x = get_or met i d in
    only x (of x (i, h, get_or_default met i x d h))

pub bounds-regions-span : goal.bounds-regions-span
bounds-regions-span c =
    let none : Span = record { start = 0; end = 0; item = 0 } in
    let h = within c.args.other.now.memory_regions c.args.spans.now c.met_by-met.result.now c.requires.only c.met_by-met.ensures.only c.loop-span.span-index none c.loop-span-test.true in
    rw c.as_slice-regions.ensures.value h

pub offset_bounds-regions-span : goal.offset_bounds-regions-span
offset_bounds-regions-span c =
    let h = bounds-regions-span c in
    let size = c.as_slice-regions.type_inv in
    omega arith

pub returns-then-pair_breaks : goal.returns-then-pair_breaks
returns-then-pair_breaks c =
    let one = spot_of c.args.one.now in
    let other = c.args.other.now in
    let items = other.memory_regions in
    let none : Region = record { phys_start = 0; virt_start = 0; size = 0; flags = 0 } in
    let nought : Span = record { start = 0; end = 0; item = 0 } in
    let x = get_or c.met_by-met.result.now c.loop-span.span-index nought in
    let h = within items c.args.spans.now c.met_by-met.result.now c.requires.only c.met_by-met.ensures.only c.loop-span.span-index nought c.loop-span-test.true in
    let v = c.as_slice-regions.ensures.value in
    let b = c.pair_breaks.ensures in
    let i = c.if-pair_breaks.true in
    let e : pair_breaks CellsOverlap one (spot c.args.b other x.item (get_or items x.item none)) ≡ true = cc in
    sym (beside_hit CellsOverlap one c.args.b other x.item none h e)

pub loop-span-preserved : goal.loop-span-preserved
loop-span-preserved c = λ k e d l.
    let one = spot_of c.args.one.now in
    let other = c.args.other.now in
    let items = other.memory_regions in
    let met = c.met_by-met.result.now in
    let none : Region = record { phys_start = 0; virt_start = 0; size = 0; flags = 0 } in
    let nought : Span = record { start = 0; end = 0; item = 0 } in
    elim (cases_eq k c.loop-span.span-index) [
      | inl same ↦
          let x = get_or met c.loop-span.span-index nought in
          let h = within items c.args.spans.now met c.requires.only c.met_by-met.ensures.only c.loop-span.span-index nought c.loop-span-test.true in
          let v = c.as_slice-regions.ensures.value in
          let b = c.pair_breaks.ensures in
          let i = c.if-pair_breaks.false in
          let here : pair_breaks CellsOverlap one (spot c.args.b other x.item (get_or items x.item none)) ≡ false = cc in
          let P : Region → Type 0 = λ y. pair_breaks CellsOverlap one (spot c.args.b other x.item y) ≡ false in
          let there : P (get_or items x.item d) = subst P (get_or_default items x.item none d h) here in
          let Q : Span → Type 0 = λ y. pair_breaks CellsOverlap one (spot c.args.b other y.item (get_or items y.item d)) ≡ false in
          let last : Q (get_or met c.loop-span.span-index e) = subst Q (get_or_default met c.loop-span.span-index nought e c.loop-span-test.true) there in
          subst (λ m. Q (get_or met m e)) (sym same) last
      | inr n ↦ c.loop-span.invariant k e d (omega arith)
    ]

pub returns : goal.returns
returns c =
    let one = spot_of c.args.one.now in
    let other = c.args.other.now in
    let items = other.memory_regions in
    let met = c.met_by-met.result.now in
    let P : Span → Type 0 = λ y. (x : Span) → Contains c.args.spans.now x → spans_meet x y ≡ true → Contains met x in
    let each : P (span_of CellsOverlap one.item one.region) = subst P c.span_of-span.ensures c.met_by-met.ensures.each in
    sym (ap is_any (beside_unmet one c.args.b other c.args.spans.now met c.requires each (λ x d cx.
    let Q : Span → Type 0 = λ y. pair_breaks CellsOverlap one (spot c.args.b other y.item (get_or items y.item d)) ≡ false in
    subst Q cx.2 (c.loop-span.invariant cx.0 x d (omega (arith, cx.1, c.loop-span-test.false))))))
