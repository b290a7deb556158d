-- A cell that is no pair's other needs no envelopes, and both lists of any other tell of it.
use Rattle.std.proofs.Common.{Bool, true, false, sym, subst}
use Rattle.jh_check.specs.Private.Envelopes.{IsRising, CoversOthers}
use Rattle.jh_check.proofs.EnvelopeLemmas.{rising_none, others_none, measured}
use Rattle.jh_check.proofs.envelope.measure.Goals as goal

pub returns-then-not-is_other : goal.returns-then-not-is_other
returns-then-not-is_other c =
    let none = sym c.new.ensures.items in
    let apart = c.is_other.ensures c.if-not-is_other.true in
    let rises = subst (λ envelopes. IsRising envelopes) none rising_none in
    let tells = λ (pass : Bool). subst (λ envelopes. CoversOthers c.args.rule pass c.args.b c.args.cell.now envelopes) none (others_none c.args.rule pass c.args.b c.args.cell.now apart) in
    record { any_rises = rises; any = tells false; unshared_rises = rises; unshared = tells true }

pub returns : goal.returns
returns c = measured c.args.rule c.args.b c.args.cell.now _ c.in_ok-any.ensures.rising c.in_ok-any.ensures.tells c.in_ok-unshared.ensures.rising c.in_ok-unshared.ensures.tells
