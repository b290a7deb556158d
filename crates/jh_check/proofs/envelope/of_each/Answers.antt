-- The farthest end never falls, so a span is covered by the envelope of its number.
use Rattle.std.proofs.Common.{◌≡◌, get_or, arith}
use Rattle.std.proofs.lemmas.List.{get_or_default}
use Rattle.jh_check.specs.declared.spans.Span.{Span}
use Rattle.jh_check.proofs.EnvelopeLemmas.{envelopes_none, envelopes_more, envelopes_rise, envelopes_tell}
use Rattle.jh_check.proofs.envelope.of_each.Goals as goal

pub loop-span-init : goal.loop-span-init
loop-span-init c = rw c.in_ok-envelopes.ensures.items (envelopes_none c.args.spans.now)

pub loop-span-preserved : goal.loop-span-preserved
loop-span-preserved c =
    let spans = c.args.spans.now in
    let i = c.loop-span.span-index in
    let none : Span = record { start = 0; end = 0; item = 0 } in
    let x = get_or spans i none in
    let m = c.max-end.ensures in
    let is : x ≡ get_or spans i x = get_or_default spans i none x c.loop-span-test.true in
    rw c.in_ok-push.ensures.items (envelopes_more spans c.loop-span.envelopes.items i c.loop-span.end c.max-end.result x c.loop-span-test.true is (omega (arith, m)) (omega (arith, m)) c.loop-span.invariant)

pub returns-clause-rising : goal.returns-clause-rising
returns-clause-rising c = envelopes_rise c.args.spans.now c.loop-span.envelopes.items c.loop-span.span-index c.loop-span.end c.loop-span-test.false c.loop-span.auto.span-index-end c.requires c.loop-span.invariant

pub returns-clause-tells : goal.returns-clause-tells
returns-clause-tells c = envelopes_tell c.args.spans.now c.loop-span.envelopes.items c.loop-span.span-index c.loop-span.end c.loop-span-test.false c.loop-span.invariant
