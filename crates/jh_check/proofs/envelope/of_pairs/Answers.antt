-- Where two go beyond a span's start, an envelope is added, and elsewhere no new pair meets.
use Rattle.std.proofs.Common.{◌≡◌, ◌<◌, ◌≤◌, get_or, arith}
use Rattle.std.proofs.lemmas.List.{get_or_default}
use Rattle.jh_check.specs.declared.spans.Span.{Span}
use Rattle.jh_check.proofs.EnvelopeLemmas.{pairs_none, pairs_same, pairs_more, pairs_tell}
use Rattle.jh_check.proofs.envelope.of_pairs.Goals as goal
use Rattle.jh_check.proofs.envelope.of_pairs.Goals.{then-from-end+in_ok-push, else-from-end}

pub loop-span-init : goal.loop-span-init
loop-span-init c = rw c.new-envelopes.ensures.items (pairs_none c.args.spans.now)

pub loop-span-preserved : goal.loop-span-preserved
loop-span-preserved c =
    let spans = c.args.spans.now in
    let i = c.loop-span.span-index in
    let none : Span = record { start = 0; end = 0; item = 0 } in
    let x = get_or spans i none in
    let low = c.min.ensures in
    let m = c.max-end.ensures in
    let f = c.max-farthest.ensures in
    let last = c.max-item.ensures in
    let start = c.from.ensures in
    let is : x ≡ get_or spans i x = get_or_default spans i none x c.loop-span-test.true in
    elim c.if-from-end.branch [
      | then-from-end+in_ok-push w ↦
          let some : x.start < c.max-end.result = omega (arith, start, w.if-from-end.true) in
          rw (w.envelopes-is, w.in_ok-push.ensures.items) (pairs_more spans c.loop-span.envelopes.items i c.loop-span.farthest c.loop-span.end c.loop-span.item c.max-farthest.result c.max-end.result c.max-item.result x c.requires c.loop-span-test.true is (omega (arith, f)) (omega (arith, f)) (omega (arith, m)) (omega (arith, last)) (omega (arith, last)) some c.loop-span.invariant)
      | else-from-end w ↦
          let none_here : c.max-end.result ≤ x.start = omega (arith, start, w.if-from-end.false) in
          rw w.envelopes-is (pairs_same spans c.loop-span.envelopes.items i c.loop-span.farthest c.loop-span.end c.loop-span.item c.max-farthest.result c.max-end.result c.max-item.result x c.loop-span-test.true is (omega (arith, f)) (omega (arith, f)) (omega (arith, m)) (omega (arith, last)) (omega (arith, last)) (λ k a b. omega (arith, low, m)) none_here c.loop-span.invariant)
    ]

pub returns-clause-rising : goal.returns-clause-rising
returns-clause-rising c = c.loop-span.invariant.rising

pub returns-clause-tells : goal.returns-clause-tells
returns-clause-tells c = pairs_tell c.args.spans.now c.loop-span.envelopes.items c.loop-span.span-index c.loop-span.farthest c.loop-span.end c.loop-span.item c.loop-span-test.false c.requires c.loop-span.invariant
